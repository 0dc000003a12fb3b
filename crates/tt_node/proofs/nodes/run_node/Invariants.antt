use Rattle.tt_node.proofs.nodes.run_node.Given as goal

-- the book that was just opened
abbrev pub ghosts-run_on_book : goal.ghosts-run_on_book
ghosts-run_on_book g a = record { source = a.opened }
