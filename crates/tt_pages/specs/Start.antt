-- The page for people.
use Rattle.std.specs.Prelude.{codes, ℕ, ◌/◌, if◌then◌else◌, List, ◌++◌, Option, Some, None}
use Rattle.std.specs.Fmt.{decimal}
use Rattle.tt_pages.specs.Health.{is_well, reasons_text}
use Rattle.tt_pages.specs.declared.healths.Health.{Health}

-- what it begins with
abbrev pub head_text : List ℕ
head_text = codes "<!DOCTYPE html>\n<html lang=\"en\">\n<head>\n<meta charset=\"utf-8\"/>\n<meta name=\"viewport\" content=\"width=device-width, initial-scale=1\"/>\n<meta http-equiv=\"refresh\" content=\"2\"/>\n<title>truetime</title>\n<style>\n:root { color-scheme: light dark; --ink: #1c2128; --paper: #ffffff; --line: #d0d7de; --bad: #c4262e }\n@media (prefers-color-scheme: dark) { :root { --ink: #e6edf3; --paper: #11151a; --line: #30363d; --bad: #ff7b72 } }\nbody { font: 15px sans-serif; color: var(--ink); background: var(--paper); max-width: 1180px; margin: 0 auto; padding: 8px }\nh1 { font-size: 18px; margin: 8px 0 }\np, pre { margin: 8px 0 }\npre { font: 14px monospace; white-space: pre-wrap }\n.wrong, .signs, .suspect, .silent, .never { color: var(--bad) }\nbody > svg { display: block; width: 100%; height: auto }\ntable { border-collapse: collapse; width: 100%; font-variant-numeric: tabular-nums }\nth, td { text-align: right; padding: 3px 2px; border-top: 1px solid var(--line); white-space: nowrap; font-size: 14px }\nth { font-weight: normal }\ntable ~ p { clear: both }\n@media (min-width: 1000px) { body > svg { float: left; width: 62% } table { width: 36%; margin-left: 64% } }\n</style>\n</head>\n<body>\n"

-- what it ends with
abbrev pub end_text : List ℕ
end_text = codes "<p>A bar is the span of a source: the time lies in it if the source is right. The band is the fused span. Ends: which ends of it a source holds. Suspect: its span misses the fused one. Silent: no answer for three rounds.</p>\n</body>\n</html>\n"

-- why the machine is not well
unfoldable pub wrong_text : Health → List ℕ
wrong_text health = codes "<pre class=\"wrong\">" ++ (reasons_text health ++ codes "</pre>\n")

-- whether it is well, and why not
abbrev pub state_text : Health → List ℕ
state_text health = if is_well health then codes "<p>ok</p>\n" else wrong_text health

-- how old its status is, in milliseconds
abbrev pub age_text : ℕ → List ℕ
age_text age = codes "<p>status " ++ decimal (age / 1000000) ++ codes " ms old</p>\n"

-- the drawing, or that there is none
abbrev pub drawing_text : Option (List ℕ) → List ℕ
drawing_text (Some drawing) = drawing
drawing_text None = codes "<p>no status yet</p>\n"

-- the page
unfoldable pub start_text : Health → ℕ → Option (List ℕ) → List ℕ
start_text health age drawing = head_text ++ (state_text health ++ (age_text age ++ (drawing_text drawing ++ end_text)))
