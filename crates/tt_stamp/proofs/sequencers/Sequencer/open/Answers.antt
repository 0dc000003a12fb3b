use Rattle.std.proofs.Common.{◌≡◌, ℕ, zero, suc, ◌+◌, ◌-◌, ◌<◌, List, [], ◌∷◌, ◌++◌, map, vec_len, refl, sym, ap, ◌∙◌, arith}
use Rattle.std.specs.List.{range_with_len}
use Rattle.std.proofs.lemmas.List.Elements.{All-map, All-same}
use Rattle.std.proofs.lemmas.List.FromFn.{map-range_with_len_more}
use Rattle.atomic_table.specs.Table.{Me}
use Rattle.atomic_table.specs.Seated.{TableId}
use Rattle.tt_stamp.specs.Stamping.{SeatState, new_seat}
use Rattle.tt_stamp.specs.Sequencing.{view_of, dealt_left, dealt_right, state_of}
use Rattle.tt_stamp.specs.declared.requests.StampRequest.{StampRequest}
use Rattle.tt_stamp.specs.declared.stampings.View.{View}
use Rattle.tt_stamp.proofs.Turns.{opening_kept, split_allowed}
use Rattle.tt_stamp.proofs.Runs.{is_in-range}
use Rattle.tt_stamp.proofs.Seats.{range-next, range-distinct}
use Rattle.tt_stamp.proofs.sequencers.Sequencer.open.Goals as goal

pub of_words-requires : goal.of_words-requires
of_words-requires c =
    opening_kept c.args.seats (range_with_len 0 c.args.seats) (λ n h. omega (arith, (is_in-range c.args.seats 0 n h).1))

-- what the first token knows while there are k seats
left_is : (me : Me StampRequest View) (seats k : ℕ) → k < seats → me ≡ (view_of seats (range_with_len k (seats - k)) [], []) → me.0 ≡ view_of seats (k ∷ range_with_len (k + 1) (seats - (k + 1))) []
left_is me seats k more is =
    ap (λ (m : Me StampRequest View). m.0) is ∙ ap (λ (ns : List ℕ). view_of seats ns []) (range-next k seats more)

-- a new seat, as contracts see it
dealt_is : (t u : TableId) (v : View) (me : Me StampRequest View) (seats k : ℕ) (rest : List ℕ) → u ≡ t → me ≡ (dealt_right v, []) → v ≡ view_of seats (k ∷ rest) [] → state_of u me.0 ≡ new_seat t seats k
dealt_is t u v me seats k rest table is v_is =
    ap (λ (x : TableId). state_of x me.0) table ∙ ap (λ (m : Me StampRequest View). state_of t m.0) is ∙ ap (λ (x : View). state_of t (dealt_right x)) v_is

-- what the first token knows once the next seat has its number
left_next : (me new : Me StampRequest View) (seats k : ℕ) → k < seats → new ≡ (dealt_left me.0, me.1) → me ≡ (view_of seats (range_with_len k (seats - k)) [], []) → new ≡ (view_of seats (range_with_len (k + 1) (seats - (k + 1))) [], [])
left_next me new seats k more is me_is =
    is ∙ ap (λ (m : Me StampRequest View). let n : Me StampRequest View = (dealt_left m.0, m.1) in n) me_is ∙ ap (λ (ns : List ℕ). let n : Me StampRequest View = (dealt_left (view_of seats ns []), []) in n) (range-next k seats more)

-- the first token is the last seat
last_is : (t u : TableId) (me : Me StampRequest View) (seats k : ℕ) → seats ≡ k + 1 → u ≡ t → me ≡ (view_of seats (range_with_len k (seats - k)) [], []) → state_of u me.0 ≡ new_seat t seats k
last_is t u me seats k e table me_is =
    let one : seats - k ≡ suc zero = omega (arith, e) in
    ap (λ (x : TableId). state_of x me.0) table ∙ ap (λ (m : Me StampRequest View). state_of t m.0) me_is ∙ ap (λ (n : ℕ). state_of t (view_of seats (range_with_len k n) [])) one

-- one more seat in the list
one_more : (t : TableId) (seats k n : ℕ) (xs ys : List SeatState) (x : SeatState) → ys ≡ xs ++ x ∷ [] → xs ≡ map (new_seat t seats) (range_with_len 0 k) → x ≡ new_seat t seats k → n ≡ k + 1 → ys ≡ map (new_seat t seats) (range_with_len 0 n)
one_more t seats k n xs ys x pushed before is len =
    pushed ∙ ap (λ (l : List SeatState). l ++ x ∷ []) before ∙ ap (λ (y : SeatState). map (new_seat t seats) (range_with_len 0 k) ++ y ∷ []) is ∙ sym (map-range_with_len_more (new_seat t seats) 0 k k (omega arith)) ∙ ap (λ (m : ℕ). map (new_seat t seats) (range_with_len 0 m)) (sym len)

pub split_seat-next-requires : goal.split_seat-next-requires
split_seat-next-requires c =
    let k = vec_len c.loop-table.opened in
    let seats = c.args.seats in
    let words = c.in-Ok-of_words.ensures.0 in
    (c.loop-table.invariant.table, omega (arith, words), split_allowed _ c.loop-table.token.id seats k (range_with_len (k + 1) (seats - (k + 1))) [] c.loop-table.token.me.0 (left_is c.loop-table.token.me seats k c.loop-table.invariant.more c.loop-table.invariant.left) (range-distinct k seats))

pub loop-table-preserved : goal.loop-table-preserved
loop-table-preserved c =
    let k = vec_len c.loop-table.opened in
    let seats = c.args.seats in
    let t = c.in-Ok-of_words.table.shared.table_id in
    let me = c.loop-table.token.me in
    let dealt = c.split_seat-next.result in
    let left = left_is me seats k c.loop-table.invariant.more c.loop-table.invariant.left in
    let next = dealt_is t dealt.table_id me.0 dealt.me seats k (range_with_len (k + 1) (seats - (k + 1))) (c.split_seat-next.ensures.3 ∙ c.loop-table.invariant.table) c.split_seat-next.ensures.4 left in
    record {
      items = one_more t seats k (vec_len c.push_reserved.new.self) c.loop-table.opened.items c.push_reserved.new.self.items (state_of dealt.table_id dealt.me.0) c.push_reserved.ensures.items c.loop-table.invariant.items next c.push_reserved.ensures.len;
      more = omega (arith, c.push_reserved.ensures.len, c.loop-table-test.true, c.len.ensures);
      room = c.push_reserved.ensures.capacity ∙ c.loop-table.invariant.room;
      table = c.split_seat-next.ensures.0 ∙ c.loop-table.invariant.table;
      left = left_next me c.split_seat-next.new.seat.me seats k c.loop-table.invariant.more c.split_seat-next.ensures.2 c.loop-table.invariant.left ∙ ap (λ (n : ℕ). let m : Me StampRequest View = (view_of seats (range_with_len n (seats - n)) [], []) in m) (sym c.push_reserved.ensures.len);
    }

pub returns-clause-opened : goal.returns-clause-opened
returns-clause-opened c =
    let k = vec_len c.loop-table.opened in
    let seats = c.args.seats in
    let t = c.in-Ok-of_words.table.shared.table_id in
    let token = c.loop-table.token in
    let whole : seats ≡ k + 1 = omega (arith, c.loop-table.invariant.more, c.loop-table-test.false, c.len.ensures) in
    one_more t seats k seats c.loop-table.opened.items c.push_reserved-2.new.self.items (state_of token.table_id token.me.0) c.push_reserved-2.ensures.items c.loop-table.invariant.items (last_is t token.table_id token.me seats k whole c.loop-table.invariant.table c.loop-table.invariant.left) whole

pub returns-clause-of_it : goal.returns-clause-of_it
returns-clause-of_it c =
    let t = c.in-Ok-of_words.table.shared.table_id in
    let P : SeatState → Type 0 = λ s. s.table ≡ t in
    All-same P _ _ (returns-clause-opened c) (All-map P (new_seat t c.args.seats) (range_with_len 0 c.args.seats) (λ k d h. refl))
