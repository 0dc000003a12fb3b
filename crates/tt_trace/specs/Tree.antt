-- Documents: trees of elements of three levels, and their one text. An element has a name, attributes and what is within.
use Rattle.std.specs.Prelude.{ℕ, ◌==◌, ◌&&◌, ◌||◌, not, nat_le, Bool, true, false, List, [], ◌∷◌, ◌++◌, codes}
use Rattle.std.specs.List.{flat_map, list_all, list_any}
use Rattle.std.specs.Str.{bytes_eq}

-- a name, and the value that it has in an element
pub record Attribute : Type 0 where
  pub name : List ℕ
  pub value : List ℕ

-- an element with words in it, given in pieces
pub record Leaf : Type 0 where
  pub name : List ℕ
  pub attributes : List Attribute
  pub words : List (List ℕ)

-- an element with leaves in it
pub record Branch : Type 0 where
  pub name : List ℕ
  pub attributes : List Attribute
  pub leaves : List Leaf

-- an element with branches in it: the whole document
pub record Document : Type 0 where
  pub name : List ℕ
  pub attributes : List Attribute
  pub branches : List Branch

-- ---- the text

-- attributes, each behind a space and its value in double quotes, and then a text
abbrev pub attributes_then : List Attribute → List ℕ → List ℕ
attributes_then [] rest = rest
attributes_then (attribute ∷ attributes) rest =
    codes " " ++ (attribute.name ++ (codes "=\"" ++ (attribute.value ++ (codes "\"" ++ attributes_then attributes rest))))

-- an opening tag, and then a text
abbrev pub opening_then : List ℕ → List Attribute → List ℕ → List ℕ
opening_then name attributes rest = codes "<" ++ (name ++ attributes_then attributes (codes ">" ++ rest))

-- a closing tag with a line feed, and then a text
abbrev pub closing_then : List ℕ → List ℕ → List ℕ
closing_then name rest = codes "</" ++ (name ++ (codes ">\n" ++ rest))

-- pieces of words, one behind the other, and then a text
abbrev pub words_then : List (List ℕ) → List ℕ → List ℕ
words_then [] rest = rest
words_then (piece ∷ pieces) rest = piece ++ words_then pieces rest

-- the text of a leaf
abbrev pub leaf_text : Leaf → List ℕ
leaf_text leaf = opening_then leaf.name leaf.attributes (words_then leaf.words (closing_then leaf.name []))

-- leaves, and then a text
abbrev pub leaves_then : List Leaf → List ℕ → List ℕ
leaves_then [] rest = rest
leaves_then (leaf ∷ leaves) rest = leaf_text leaf ++ leaves_then leaves rest

-- the text of a branch
abbrev pub branch_text : Branch → List ℕ
branch_text branch = opening_then branch.name branch.attributes (codes "\n") ++ leaves_then branch.leaves (closing_then branch.name [])

-- the text of a document
abbrev pub document_text : Document → List ℕ
document_text document =
    opening_then document.name document.attributes (codes "\n") ++ (flat_map branch_text document.branches ++ closing_then document.name [])

-- ---- what is well-formed

-- whether this is a letter: a to z, A to Z
abbrev pub is_letter : ℕ → Bool
is_letter c = (nat_le 97 c && nat_le c 122) || (nat_le 65 c && nat_le c 90)

-- whether this is a letter or a digit
abbrev pub is_letter_or_digit : ℕ → Bool
is_letter_or_digit c = is_letter c || (nat_le 48 c && nat_le c 57)

-- whether this is a name: a letter, and then letters and digits
abbrev pub is_name : List ℕ → Bool
is_name [] = false
is_name (c ∷ cs) = is_letter c && list_all is_letter_or_digit cs

-- whether a character stands for itself in XML: it is printed ASCII, and none of the five " & ' < >
abbrev pub is_plain : ℕ → Bool
is_plain c = nat_le 32 c && nat_le c 126 && not (c == 34) && not (c == 38) && not (c == 39) && not (c == 60) && not (c == 62)

-- whether each character of a text is plain
abbrev pub are_plain : List ℕ → Bool
are_plain text = list_all is_plain text

-- whether no two attributes have one name
abbrev pub have_own_names : List Attribute → Bool
have_own_names [] = true
have_own_names (attribute ∷ attributes) = not (list_any (λ other. bytes_eq attribute.name other.name) attributes) && have_own_names attributes

-- whether an attribute has a name, and a plain value
abbrev pub is_attribute : Attribute → Bool
is_attribute attribute = is_name attribute.name && are_plain attribute.value

-- whether a tag of this name and with these attributes is well-formed
abbrev pub is_tag : List ℕ → List Attribute → Bool
is_tag name attributes = is_name name && list_all is_attribute attributes && have_own_names attributes

-- whether a leaf is well-formed: its tag is, and its words are plain
abbrev pub is_leaf : Leaf → Bool
is_leaf leaf = is_tag leaf.name leaf.attributes && list_all are_plain leaf.words

-- whether a branch is: its tag is, and each leaf
abbrev pub is_branch : Branch → Bool
is_branch branch = is_tag branch.name branch.attributes && list_all is_leaf branch.leaves

-- whether a document is: its tag is, and each branch
abbrev pub is_well_formed : Document → Bool
is_well_formed document = is_tag document.name document.attributes && list_all is_branch document.branches
