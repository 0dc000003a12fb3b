-- What `parse` reads of a text is what the definitions read.
use Rattle.std.proofs.Common.{◌≡◌, ℕ, true, false, nat_eq, List, ◌++◌, length, ◌==◌, Some, None, Result, Ok, Err, refl, sym, ap, ◌∙◌, subst, append-nil, arith, inl, inr}
use Rattle.std.specs.Result.{result_ok}
use Rattle.std.specs.Cmp.Lexicographic.{pointwise, bytes_decides}
use Rattle.std.specs.declared.net.socket_addr.SocketAddr.{SocketAddr}
use Rattle.std.specs.declared.net.socket_addr.SocketAddr.TheVariants.{V4, V6}
use Rattle.std.specs.declared.net.socket_addr.SocketAddrV4.{SocketAddrV4}
use Rattle.std.specs.declared.net.socket_addr.SocketAddrV6.{SocketAddrV6}
use Rattle.std.specs.Net.Grammar.{Parses, IsSocketText, IsSocketV4Text, IsSocketV6Text}
use Rattle.std.specs.Net.Reader.{Read, whole_value, read_socket_v4, read_socket_v6}
use Rattle.std.specs.Net.Socket.{IsSocketAddr, socket_flowinfo}
use Rattle.std.specs.Net.Text.{socket_text}
use Rattle.std.proofs.NetLemmas.Sockets.{read_socket_v4_complete, read_socket_v4_sound, read_socket_v6_complete, read_socket_v6_sound, IsSocketV4Text-not_v6}
use Rattle.std.proofs.NetLemmas.Theorems.{parse-socket_text}
use Rattle.std.proofs.lemmas.Bool.{cases_Bool}
use Rattle.std.proofs.lemmas.Bool.Decides.{nat_tests}
use Rattle.std.proofs.lemmas.List.{nil_from_length}
use Rattle.tt_settings.specs.Socket.{socket_in, address_of}

v4_none : (text : List ℕ) → ((a : SocketAddrV4) → ¬ (IsSocketV4Text text a)) → whole_value (read_socket_v4 text) ≡ None
v4_none text never = by (read_socket_v4 text) refl
  where
    by : (r : Read (List ℕ × ℕ)) → read_socket_v4 text ≡ r → whole_value r ≡ None
    by None e = refl
    by (Some p) e = elim (cases_Bool (length p.1 == 0)) [
      | inl ended ↦
          let a : SocketAddrV4 = record { ip = record { octets = p.0.0 }; port = p.0.1 } in
          let sound = read_socket_v4_sound text p.1 a e in
          let whole : text ≡ sound.0 = sound.1 ∙ ap (λ r. sound.0 ++ r) (nil_from_length p.1 (grind (arith, nat_tests))) ∙ append-nil sound.0 in
          absurd (never a (subst (λ t. IsSocketV4Text t a) (sym whole) sound.2))
      | inr left ↦ rw left refl
    ]

v6_none : (text : List ℕ) → ((a : SocketAddrV6) → ¬ (IsSocketV6Text text a)) → whole_value (read_socket_v6 text) ≡ None
v6_none text never = by (read_socket_v6 text) refl
  where
    by : (r : Read (List ℕ × ℕ × ℕ × ℕ)) → read_socket_v6 text ≡ r → whole_value r ≡ None
    by None e = refl
    by (Some p) e = elim (cases_Bool (length p.1 == 0)) [
      | inl ended ↦
          let a : SocketAddrV6 = record { ip = record { segments = p.0.0 }; port = p.0.1; flowinfo = p.0.2; scope_id = p.0.3 } in
          let sound = read_socket_v6_sound text p.1 a e in
          let whole : text ≡ sound.0 = sound.1 ∙ ap (λ r. sound.0 ++ r) (nil_from_length p.1 (grind (arith, nat_tests))) ∙ append-nil sound.0 in
          absurd (never a (subst (λ t. IsSocketV6Text t a) (sym whole) sound.2))
      | inr left ↦ rw left refl
    ]

-- what is parsed is what is read
pub parsed_in : {E : Type 0} (text : List ℕ) (r : Result SocketAddr E) → Parses IsSocketText text r → socket_in text ≡ result_ok r
unfolding socket_in
parsed_in text (Ok (V4 a)) h = rw (read_socket_v4_complete text a h) refl
parsed_in text (Ok (V6 a)) h = rw (v4_none text (λ b other. IsSocketV4Text-not_v6 text b a other h), read_socket_v6_complete text a h) refl
parsed_in text (Err e) h = rw (v4_none text (λ a. h (V4 a)), v6_none text (λ a. h (V6 a))) refl

-- an address is the one of the text where the text is what is printed of it
pub address_is : {E : Type 0} (text : List ℕ) (a : SocketAddr) (r : Result SocketAddr E) → Parses IsSocketText text r → r ≡ Ok a → pointwise nat_eq (socket_text a) text ≡ true → Some a ≡ address_of text
unfolding address_of
address_is text a r h is printed =
    let found : socket_in text ≡ Some a = parsed_in text r h ∙ ap result_ok is in
    rw (found, printed) refl

pub address_other : {E : Type 0} (text : List ℕ) (a : SocketAddr) (r : Result SocketAddr E) → Parses IsSocketText text r → r ≡ Ok a → pointwise nat_eq (socket_text a) text ≡ false → None ≡ address_of text
unfolding address_of
address_other text a r h is other =
    let found : socket_in text ≡ Some a = parsed_in text r h ∙ ap result_ok is in
    rw (found, other) refl

pub address_none : {E : Type 0} (text : List ℕ) (e : E) (r : Result SocketAddr E) → Parses IsSocketText text r → r ≡ Err e → None ≡ address_of text
unfolding address_of
address_none text e r h is =
    let none : socket_in text ≡ None = parsed_in text r h ∙ ap result_ok is in
    rw none refl

-- no address is printed so where none is read, or where another is
pub printed_none : {E : Type 0} (text : List ℕ) (e : E) (r : Result SocketAddr E) → Parses IsSocketText text r → r ≡ Err e → (b : SocketAddr) → IsSocketAddr b → socket_flowinfo b ≡ 0 → socket_text b ≡ text → ⊥
printed_none text e r h is b good plain printed =
    let found = parse-socket_text b r good plain (subst (λ t. Parses IsSocketText t r) (sym printed) h) in
    cc (found, is)

pub printed_other : {E : Type 0} (text : List ℕ) (a : SocketAddr) (r : Result SocketAddr E) → Parses IsSocketText text r → r ≡ Ok a → pointwise nat_eq (socket_text a) text ≡ false → (b : SocketAddr) → IsSocketAddr b → socket_flowinfo b ≡ 0 → socket_text b ≡ text → ⊥
printed_other text a r h is other b good plain printed =
    let found = parse-socket_text b r good plain (subst (λ t. Parses IsSocketText t r) (sym printed) h) in
    let same : b ≡ a = cc (found, is) in
    let equal = (bytes_decides (socket_text a) text).1 (ap socket_text (sym same) ∙ printed) in
    cc (equal, other)
