use Rattle.std.proofs.Common.{◌≡◌, ◌∙◌, ◌⊎◌, sym, ap, subst, List, [], ◌∷◌, ◌++◌, Option, Some, None, Ok, Err, MatchResult, map}
use Rattle.std.specs.Option.{option_map}
use Rattle.clap.proofs.WalkLemmas.{raw_values-rows}
use Rattle.clap.specs.Walk.{Text, all_of, texts}
use Rattle.clap.specs.Words.{found_of, rows_of}
use Rattle.tt_master.specs.declared.acts.Act.{Act}
use Rattle.tt_master.specs.declared.acts.Act.TheVariants.{Honest}
use Rattle.ttd_words.specs.Reading.{acts_at}
use Rattle.ttd_words.specs.declared.faults.WordsFault.TheVariants.{Memory}
use Rattle.ttd_words.proofs.values.acts_at.Goals as goal

pub returns-in-Some : goal.returns-in-Some
returns-in-Some c =
    let f = found_of c.args.matches.now in
    let given : all_of c.args.id.now (rows_of f) ≡ Some (texts c.in-Some.given.now) =
    sym (raw_values-rows f c.args.id.now) ∙ (sym c.get_strs.ensures ∙ ap (option_map (λ s. map (λ v. v.now) s.now)) c.in-Some.is) in
    subst (λ (o : Option (List Text)). MatchResult c.acts_in.result (λ acts. acts_at o ≡ Ok acts.items) (λ fault. (acts_at o ≡ Err fault) ⊎ (fault ≡ Memory)))
    (sym given) c.acts_in.ensures

pub returns-in_ok-push-in-None : goal.returns-in_ok-push-in-None
returns-in_ok-push-in-None c =
    let f = found_of c.args.matches.now in
    let given : all_of c.args.id.now (rows_of f) ≡ None =
    sym (raw_values-rows f c.args.id.now) ∙ (sym c.get_strs.ensures ∙ ap (option_map (λ s. map (λ v. v.now) s.now)) c.in-None.is) in
    let one : c.push.new.self.items ≡ Honest ∷ [] = c.in_ok-push-in-None.ensures.items ∙ ap (λ (acts : List Act). acts ++ Honest ∷ []) c.new-acts.ensures.items in
    ap acts_at given ∙ ap (λ (acts : List Act). Ok acts) (sym one)
