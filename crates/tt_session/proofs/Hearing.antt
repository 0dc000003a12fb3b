-- What further bytes do to a session.
use Rattle.std.proofs.Common.{◌≡◌, ℕ, Bool, List, [], ◌∷◌, ◌++◌, Option, Result, Ok, Err, OnOk, OnErr, sym, ap, ◌∙◌, subst, append_assoc, append-nil}
use Rattle.std.specs.Io.KnownBytes.{Appends}
use Rattle.std.proofs.KnownBytes.{Appends-nil, Appends-trans}
use Rattle.tt_session.specs.Replies.{text_of}
use Rattle.tt_session.specs.Session.{Session, StaysFlushed, FlushedBetween}
use Rattle.tt_session.specs.Talks.{TalkState, Talks, TalksOn, BreaksIn, first_talk}
use Rattle.tt_session.specs.Steps.{Steps}
use Rattle.tt_session.specs.declared.calls.Call.{Call}
use Rattle.tt_session.specs.declared.replies.LineReply.{LineReply}
use Rattle.tt_session.proofs.Following.{Stands-first, Stands-more, kept_nothing}

-- what was flushed from a later state of the writer on was so from an earlier one on, if it held nothing back between them
pub Kept-later : {W : Type 0} (shows : W → Option (List ℕ)) (flushed : W → Bool) (taken : Option (List ℕ)) (old mids new : W) (told front : List ℕ) → StaysFlushed flushed old mids
    → FlushedBetween shows flushed taken mids new told front → FlushedBetween shows flushed taken old new told front
Kept-later shows flushed taken old mids new told front stays kept =
    record { mid = kept.mid; stays = λ whole. kept.stays (stays whole); had = kept.had; has = kept.has }

module _ {S : Type 0} (allows : S → Call → S → Type 0) (waits : ℕ) where
  -- before the first byte
  pub Talks-first : (took : Option (List ℕ)) (service : S) (talk : TalkState) → talk ≡ first_talk → Talks allows waits took took service [] service talk
  Talks-first took service talk new =
      record { text = []; stands = rw new (Stands-first allows waits service); written = Appends-nil took }

  -- a step, whose replies are written
  pub TalksOn-steps : (took takes : Option (List ℕ)) (before after : S) (talk talks : TalkState) (bytes text : List ℕ) (is_commit : Bool)
      → Steps allows waits before talk bytes after talks text is_commit → Appends took takes text → TalksOn allows waits took before talk bytes takes after talks
  TalksOn-steps took takes before after talk talks bytes text is_commit steps written had first past t =
      record {
        text = t.text ++ text;
        stands = Stands-more allows waits first before after past bytes t.text text talk talks is_commit t.stands steps;
        written = Appends-trans had took takes t.text text t.written written;
      }

  -- a line feed, of whose reply a front is written
  pub BreaksIn-answered : {W : Type 0} (shows : W → Option (List ℕ)) (flushed : W → Bool) (old new : W) (mid after : S) (talk answers : TalkState) (reply : LineReply) (is_commit : Bool) (front cut : List ℕ)
      → Steps allows waits mid talk (10 ∷ []) after answers (text_of reply) is_commit
      → answers.line ≡ []
      → text_of reply ≡ front ++ cut
      → Appends (shows old) (shows new) front
      → BreaksIn allows waits shows flushed old mid talk (10 ∷ []) new after
  BreaksIn-answered shows flushed old new mid after talk answers reply is_commit front cut steps empty is written had first past t =
      let heard = past ++ 10 ∷ [] in
      let stands = Stands-more allows waits first mid after past (10 ∷ []) t.text (text_of reply) talk answers is_commit t.stands steps in
      let none = kept_nothing answers.line stands.rest empty stands.kept in
      record {
        off =
            record {
              heard = heard;
              unheard = [];
              told = t.text;
              reply = reply;
              front = front;
              cut = cut;
              served = answers.served;
              last = answers.last;
              bytes_are = sym (append-nil heard);
              session = subst (λ r. Session allows waits first heard after (t.text ++ text_of reply) answers.served r answers.last) none stands.session;
              reply_is = is;
              written = Appends-trans had (shows old) (shows new) t.text front t.written written;
            };
        kept = record { mid = old; stays = λ whole. whole; had = t.written; has = written };
      }

  -- no further bytes
  pub TalksOn-nil : (took : Option (List ℕ)) (service : S) (talk : TalkState) → TalksOn allows waits took service talk [] took service talk
  TalksOn-nil took service talk had first past t = rw (append-nil past) t

  -- further bytes, and begun more of them
  pub TalksOn-trans : (took mids takes : Option (List ℕ)) (before mid after : S) (talk talks talked : TalkState) (xs ys : List ℕ)
      → TalksOn allows waits took before talk xs mids mid talks → TalksOn allows waits mids mid talks ys takes after talked
      → TalksOn allows waits took before talk (xs ++ ys) takes after talked
  TalksOn-trans took mids takes before mid after talk talks talked xs ys one two had first past t =
      rw (← append_assoc past xs ys) (two had first (past ++ xs) (one had first past t))

  -- further bytes, and behind them some in which the session broke off, and more behind these
  pub BreaksIn-more : {W : Type 0} (shows : W → Option (List ℕ)) (flushed : W → Bool) (old mids new : W) (before mid after : S) (talk talks : TalkState) (xs ys zs all : List ℕ) → all ≡ (xs ++ ys) ++ zs
      → StaysFlushed flushed old mids
      → TalksOn allows waits (shows old) before talk xs (shows mids) mid talks → BreaksIn allows waits shows flushed mids mid talks ys new after
      → BreaksIn allows waits shows flushed old before talk all new after
  BreaksIn-more shows flushed old mids new before mid after talk talks xs ys zs all is stays on breaks had first past t =
      let b = breaks had first (past ++ xs) (on had first past t) in
      let o = b.off in
      record {
        off =
            record {
              heard = o.heard;
              unheard = o.unheard ++ zs;
              told = o.told;
              reply = o.reply;
              front = o.front;
              cut = o.cut;
              served = o.served;
              last = o.last;
              bytes_are =
                  ap (λ l. past ++ l) is ∙ sym (append_assoc past (xs ++ ys) zs)
                  ∙ ap (λ l. l ++ zs) (sym (append_assoc past xs ys) ∙ o.bytes_are) ∙ append_assoc o.heard o.unheard zs;
              session = o.session;
              reply_is = o.reply_is;
              written = o.written;
            };
        kept = Kept-later shows flushed had old mids new o.told o.front stays b.kept;
      }

-- what holds in any case holds of an `Ok`
pub on_ok : {A E P : Type 0} (r : Result A E) → P → OnOk r P
on_ok (Ok v) p = p
on_ok (Err e) p = tt

-- and of an `Err`
pub on_err : {A E P : Type 0} (r : Result A E) → P → OnErr r P
on_err (Ok v) p = tt
on_err (Err e) p = p
