-- One line. Up to the first line feed the bytes are a line, if there are few enough. What it asks for decides what it may be
-- answered: only `quit` gets `bye`, and gets nothing else.
use Rattle.std.proofs.Common.{inl, inr, ◌≡◌, ◌≢◌, ◌≤◌, ◌+◌, ℕ, List, [], ◌∷◌, ◌++◌, take, length, Result, Ok, Err, refl, sym, ap, ◌∙◌}
use Rattle.std.proofs.Common.{subst, append_assoc, append-nil, arith}
use Rattle.std.specs.Io.KnownBytes.{Appends, Consumes, Keeps}
use Rattle.std.proofs.KnownBytes.{Consumes-nil, Consumes-kept}
use Rattle.fca_io.specs.Transfers.{AppendsFront}
use Rattle.std.specs.Prelude.{All, Option, is_err, false, true, OnOk, OnErr}
use Rattle.std.proofs.lemmas.List.{length-take}
use Rattle.std.proofs.lemmas.List.Elements.{All-nil, All-cons, All-head, All-tail}
use Rattle.std.proofs.Math.Nat.{min-le_left}
use Rattle.fca_model.specs.Tables.{Text}
use Rattle.fca_model.specs.declared.TheConstants.{LINE_BYTES}
use Rattle.fca_model.specs.Exploration.{SetEvent, SetEntry}
use Rattle.fca_io.specs.declared.outside.Put.{Put}
use Rattle.fca_io.specs.Faults.{Rose, ReadCounts}
use Rattle.expert_wire.specs.Texts.{line_end}
use Rattle.expert_wire.specs.Requests.{TakesMemory, request_form}
use Rattle.expert_wire.specs.declared.requests.Request.{Request}
use Rattle.expert_wire.specs.declared.requests.Request.TheVariants.{Quit as QuitAsked}
use Rattle.expert_wire.specs.declared.requests.RequestFault.{RequestFault}
use Rattle.expert_sessions.specs.declared.said.Said.{Said}
use Rattle.expert_sessions.specs.declared.said.Said.TheVariants.{Replied, Bye, BadLine, BadWidth, NoMemory}
use Rattle.expert_sessions.specs.Lines.{Asks, LacksMemory, Says, Exchange, IsExchange, lines_of, answers_text, entries_of, turns_of}
use Rattle.expert_sessions.specs.Lines.{said_line, before_last}
use Rattle.expert_sessions.specs.Moves.{DuplexState, Moves, IsQuiet}
use Rattle.expert_sessions.specs.Courses.{SendsText, HasFeedAt}

-- ---- answers

-- a request that makes an entry is not `quit`
asks-not_quit : (e : ℕ) (form : Result Request RequestFault) (event : SetEvent) → Asks e form event → form ≢ Ok QuitAsked
asks-not_quit e form event h q = subst (λ f. Asks e f event) q h

-- `quit` takes no memory
lacks-not_quit : (e : ℕ) (form : Result Request RequestFault) (turns : ℕ) → LacksMemory e form turns → form ≢ Ok QuitAsked
lacks-not_quit e form turns h = elim h as (λ _. form ≢ Ok QuitAsked) [
  | inl asked ↦ asks-not_quit e form asked.0 asked.1
  | inr unread ↦ (λ q. subst TakesMemory q unread.0)
]

-- only `quit` gets `bye`
pub not_bye : (e : ℕ) (form : Result Request RequestFault) (said : Said) (made : List SetEntry) (turns : ℕ) → Says e form said made turns
    → said ≢ Bye → form ≢ Ok QuitAsked
not_bye e form (Replied reply) made turns h n = asks-not_quit e form h.0 h.1
not_bye e form Bye made turns h n = absurd (n refl)
not_bye e form BadLine made turns h n = λ q. let p = h.0 in cc
not_bye e form BadWidth made turns h n = λ q. let p = h.0 in cc
not_bye e form NoMemory made turns h n = lacks-not_quit e form turns h.0

pub bye_quits : (e : ℕ) (form : Result Request RequestFault) (said : Said) (made : List SetEntry) (turns : ℕ)
    → Says e form said made turns → said ≡ Bye → form ≡ Ok QuitAsked
bye_quits e form said made turns h b = let q : Says e form Bye made turns = subst (λ s. Says e form s made turns) b h in q.0

-- a line takes one turn at most
lacks-few : (e : ℕ) (form : Result Request RequestFault) (turns : ℕ) → LacksMemory e form turns → turns ≤ 1
lacks-few e form turns h = elim h as (λ _. turns ≤ 1) [
  | inl asked ↦ (let one = asked.2 in omega arith)
  | inr unread ↦ (let none = unread.1 in omega arith)
]

says-few : (e : ℕ) (form : Result Request RequestFault) (said : Said) (made : List SetEntry) (turns : ℕ) → Says e form said made turns
    → turns ≤ 1
says-few e form (Replied reply) made turns h = let one = h.3 in omega arith
says-few e form Bye made turns h = let none = h.2 in omega arith
says-few e form BadLine made turns h = let none = h.2 in omega arith
says-few e form BadWidth made turns h = let none = h.2 in omega arith
says-few e form NoMemory made turns h = lacks-few e form turns h.0

pub turns_of-few : (n e : ℕ) (xs : List Exchange) → All (IsExchange n e) xs → turns_of xs ≤ length xs
turns_of-few n e [] h = omega arith
turns_of-few n e (x ∷ xs) h =
    let first = says-few e (request_form x.line n) x.said x.made x.turns (All-head (IsExchange n e) x xs h).answered in
    let others = turns_of-few n e xs (All-tail (IsExchange n e) x xs h) in
    omega arith

-- the bytes before the first line feed are a line that was answered
pub is-exchange : (n e : ℕ) (bytes : Text) (at : ℕ) (said : Said) (made : List SetEntry) (turns : ℕ) → HasFeedAt bytes at → at ≤ LINE_BYTES
    → Says e (request_form (take at bytes) n) said made turns
    → IsExchange n e (record { line = take at bytes; said = said; made = made; turns = turns })
is-exchange n e bytes at said made turns feed few answered = record {
  short = let long = length-take at bytes in let low = min-le_left at (length bytes) in omega arith;
  unbroken = feed.unbroken;
  answered = answered;
}

-- ---- lists of lines

pub lines_of-append : (xs ys : List Exchange) → lines_of (xs ++ ys) ≡ lines_of xs ++ lines_of ys
lines_of-append [] ys = refl
lines_of-append (x ∷ xs) ys = ap (λ z. (x.line ++ line_end) ++ z) (lines_of-append xs ys)
    ∙ sym (append_assoc (x.line ++ line_end) (lines_of xs) (lines_of ys))

pub answers_text-append : (attributes : List Text) (xs ys : List Exchange)
    → answers_text attributes (xs ++ ys) ≡ answers_text attributes xs ++ answers_text attributes ys
answers_text-append attributes [] ys = refl
answers_text-append attributes (x ∷ xs) ys = ap (λ z. said_line attributes x.said ++ z) (answers_text-append attributes xs ys)
    ∙ sym (append_assoc (said_line attributes x.said) (answers_text attributes xs) (answers_text attributes ys))

pub entries_of-append : (xs ys : List Exchange) → entries_of (xs ++ ys) ≡ entries_of xs ++ entries_of ys
entries_of-append [] ys = refl
entries_of-append (x ∷ xs) ys = ap (λ z. x.made ++ z) (entries_of-append xs ys) ∙ sym (append_assoc x.made (entries_of xs) (entries_of ys))

pub turns_of-append : (xs ys : List Exchange) → turns_of (xs ++ ys) ≡ turns_of xs + turns_of ys
turns_of-append [] ys = omega arith
turns_of-append (x ∷ xs) ys = let others = turns_of-append xs ys in omega arith

pub before_last-snoc : (xs : List Exchange) (x : Exchange) → before_last (xs ++ x ∷ []) ≡ xs
before_last-snoc [] x = refl
before_last-snoc (y ∷ []) x = refl
before_last-snoc (y ∷ z ∷ xs) x = ap (λ l. y ∷ l) (before_last-snoc (z ∷ xs) x)

pub before_last-All : (P : Exchange → Type 0) (xs : List Exchange) → All P xs → All P (before_last xs)
before_last-All P [] h = All-nil P
before_last-All P (x ∷ []) h = All-nil P
before_last-All P (x ∷ y ∷ xs) h = All-cons P x (before_last (y ∷ xs)) (All-head P x (y ∷ xs) h)
    (before_last-All P (y ∷ xs) (All-tail P x (y ∷ xs) h))

pub All-one : (P : Exchange → Type 0) (x : Exchange) → P x → All P (x ∷ [])
All-one P x h = All-cons P x [] h (All-nil P)

-- ---- writes

-- what succeeded was sent whole
pub sent_whole : {a b : DuplexState} {text : Text} (r : Result (Unit {0}) Put) → SendsText a b text r → is_err r ≡ false → Moves a b [] text
sent_whole {a} {b} {text} (Ok u) w e = subst (λ z. Moves a b [] z)
    (sym (w.split ∙ ap (λ z. w.sent ++ z) w.whole ∙ append-nil w.sent)) w.moves
sent_whole (Err x) w e = cc

pub sent_quiet : {a b : DuplexState} {text : Text} (r : Result (Unit {0}) Put) → SendsText a b text r → is_err r ≡ false → IsQuiet a b
sent_quiet (Ok u) w e = record { read_faults = w.read_faults; write_faults = w.quiet }
sent_quiet (Err x) w e = cc

pub write_rose : {a b : DuplexState} {text : Text} (r : Result (Unit {0}) Put) → SendsText a b text r → is_err r ≡ true
    → Rose a.write_faults b.write_faults
write_rose (Ok u) w e = cc
write_rose (Err x) w e = w.failed

-- what stands beside a sink stays: at an end that is how often it was read, and its count of faults
module _ (reads reads' : Option ℕ) (faults faults' : ℕ) (aside aside' : ReadCounts) (same : aside' ≡ aside)
    (before : aside ≡ record { reads = reads; faults = faults }) (after : aside' ≡ record { reads = reads'; faults = faults' }) where
  pub reads-kept : reads' ≡ reads
  reads-kept = ap (λ (asked : ReadCounts). asked.reads) (sym after ∙ same ∙ before)

  faults-kept : faults' ≡ faults
  faults-kept = ap (λ (asked : ReadCounts). asked.faults) (sym after ∙ same ∙ before)

-- a call that writes leaves alone what stands beside a sink: at an end that is what is left to read
pub writes-from : (a b : DuplexState) (text : Text) (r : Result (Unit {0}) Put) (other other' : Option Text) (reads reads' : Option ℕ)
    (aside aside' : ReadCounts)
    → OnOk r (Appends a.held b.held text) → AppendsFront a.held b.held text → OnOk r (b.write_faults ≡ a.write_faults)
    → OnErr r (Rose a.write_faults b.write_faults) → a.write_faults ≤ b.write_faults → Keeps other other' → aside' ≡ aside
    → other ≡ a.left → other' ≡ b.left → aside ≡ record { reads = reads; faults = a.read_faults }
    → aside' ≡ record { reads = reads'; faults = b.read_faults } → SendsText a b text r
writes-from a b text (Ok u) other other' reads reads' aside aside' whole front quiet failed later keeps same p q u' v =
    let still = faults-kept reads reads' a.read_faults b.read_faults aside aside' same u' v in
    record {
      sent = text;
      unsent = [];
      split = sym (append-nil text);
      moves = record {
        lost = subst (λ z. Consumes a.left z []) q
            (subst (λ z. Consumes z other' []) p (Consumes-kept other other other' [] (Consumes-nil other) keeps));
        gained = whole;
        read_faults = omega arith;
        write_faults = later;
      };
      whole = refl;
      quiet = quiet;
      failed = tt;
      read_faults = still;
    }
writes-from a b text (Err e) other other' reads reads' aside aside' whole front quiet failed later keeps same p q u' v =
    let still = faults-kept reads reads' a.read_faults b.read_faults aside aside' same u' v in
    record {
      sent = front.front;
      unsent = front.rest;
      split = front.whole;
      moves = record {
        lost = subst (λ z. Consumes a.left z []) q
            (subst (λ z. Consumes z other' []) p (Consumes-kept other other other' [] (Consumes-nil other) keeps));
        gained = front.gained;
        read_faults = omega arith;
        write_faults = later;
      };
      whole = tt;
      quiet = tt;
      failed = failed;
      read_faults = still;
    }
