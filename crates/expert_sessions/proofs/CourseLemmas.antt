-- A session goes line by line. `Goes` says what stands after k lines that were served and are not `quit`; one more such line keeps it;
-- and where no line is served any more, what stands is what the session has served.
use Rattle.std.proofs.Common.{◌≡◌, ◌≢◌, ◌≤◌, ◌<◌, ℕ, ◌+◌, List, [], ◌∷◌, ◌++◌, take, drop, length, Some, Result, refl, sym, ap, ◌∙◌, subst}
use Rattle.std.proofs.Common.{append_assoc, append-nil, length-append, arith, inl, inr, ◌⊎◌}
use Rattle.std.specs.Prelude.{All, is_err, false, true, Ok, Err, IfOk, IfErr, OnErr, IsErrOf}
use Rattle.std.proofs.lemmas.List.Elements.{All-nil, All-append}
use Rattle.std.proofs.lemmas.List.{length-take}
use Rattle.fca_io.specs.Faults.{Rose}
use Rattle.fca_io.specs.declared.outside.Put.{Put}
use Rattle.fca_model.specs.Tables.{Text, NamedContext}
use Rattle.fca_model.specs.declared.TheConstants.{LINE_BYTES}
use Rattle.fca_model.specs.Exploration.{SetEvent, SetReply, SetEntry}
use Rattle.expert_wire.proofs.WriteLemmas.{Rose-later}
use Rattle.turn_lock.specs.declared.fault.TurnFault.{TurnFault}
use Rattle.turn_lock.specs.declared.fault.TurnFault.TheVariants.{Spent as NoTurn, Memory as NoTurnMemory}
use Rattle.expert_wire.specs.Texts.{line_end}
use Rattle.expert_wire.specs.Greetings.{greeting}
use Rattle.expert_wire.specs.Requests.{request_form}
use Rattle.expert_wire.specs.declared.requests.Request.{Request}
use Rattle.expert_wire.specs.declared.requests.RequestFault.{RequestFault}
use Rattle.expert_gate.specs.Desks.{one_less}
use Rattle.expert_sessions.specs.declared.said.Said.{Said}
use Rattle.expert_sessions.specs.declared.said.Said.TheVariants.{Bye}
use Rattle.expert_sessions.specs.declared.ended.Ended.{Ended}
use Rattle.expert_sessions.specs.declared.ended.Ended.TheVariants.{Quit, EndOfInput, ReadFault, WriteFault, LongLine, Limit, Spent, Memory}
use Rattle.expert_sessions.specs.Lines.{Asks, Says, BeginsWithEvent, Exchange, IsExchange, IsQuit, IsNotQuit, lines_of, answers_text}
use Rattle.expert_sessions.specs.Lines.{entries_of, said_line, before_last}
use Rattle.expert_sessions.specs.Talks.{GoesOn, HasQuit, LacksLastAnswer}
use Rattle.expert_sessions.specs.Moves.{DuplexState, Moves, IsQuiet, DeskProgress, Enters}
use Rattle.expert_sessions.specs.Courses.{said_of, SendsText, ReadsOn, HasFeedAt, LacksLine, Serves, HaltsAt, Halts, Goes, Closes}
use Rattle.expert_sessions.specs.Courses.{HasServed}
use Rattle.expert_sessions.proofs.MoveLemmas.{Moves-trans, Moves-equal, IsQuiet-trans, Enters-nil, Enters-trans, Enters-equal}
use Rattle.expert_sessions.proofs.MoveLemmas.{one_less-taken, one_less-none}
use Rattle.expert_sessions.proofs.LineLemmas.{not_bye, bye_quits, is-exchange, lines_of-append, answers_text-append, entries_of-append}
use Rattle.expert_sessions.proofs.LineLemmas.{turns_of-append}
use Rattle.expert_sessions.proofs.LineLemmas.{before_last-snoc, before_last-All, All-one, sent_whole, sent_quiet, write_rose}

-- ---- one line

-- what a turn is answered, what it enters, and that it is taken
module _ (e : ℕ) (form : Result Request RequestFault) (event : SetEvent) (c d : DeskProgress) (asks : Asks e form event)
    (left : d.left ≡ one_less c.left) where
  pub turn-answered : (turn : Result SetReply TurnFault)
      → IfOk turn (λ reply. d.entries ≡ c.entries ++ record { event = event; reply = reply } ∷ []) → OnErr turn (d.entries ≡ c.entries)
      → (IsErrOf turn NoTurn → c.left ≡ Some 0) × (c.left ≡ Some 0 → IsErrOf turn NoTurn)
      → IfOk (said_of turn) (λ said. (made : List SetEntry) × (turns : ℕ) × Says e form said made turns × Enters c d made turns)
  turn-answered (Ok reply) entered same spent = (
    record { event = event; reply = reply } ∷ [],
    1,
    (event, asks, refl, refl),
    record { added = entered; turns = one_less-taken c.left d.left left (λ none. let told = spent.1 none in cc) },
  )
  turn-answered (Err NoTurnMemory) entered same spent = (
    [],
    1,
    (inl (event, asks, refl), refl),
    record {
      added = same ∙ sym (append-nil c.entries);
      turns = one_less-taken c.left d.left left (λ none. let told = spent.1 none in cc);
    },
  )
  turn-answered (Err NoTurn) entered same spent = tt

-- no turn is left for what was asked
pub turn-refused : (e : ℕ) (form : Result Request RequestFault) (event : SetEvent) (c d : DeskProgress) → Asks e form event
    → d.left ≡ one_less c.left → (turn : Result SetReply TurnFault)
    → OnErr turn (d.entries ≡ c.entries) → (IsErrOf turn NoTurn → c.left ≡ Some 0) × (c.left ≡ Some 0 → IsErrOf turn NoTurn)
    → IfErr (said_of turn) (λ ended. (ended ≡ Spent) × (d.left ≡ Some 0) × Enters c d [] 0 × (asked : SetEvent) × Asks e form asked)
turn-refused e form event c d asks left (Ok reply) same spent = tt
turn-refused e form event c d asks left (Err NoTurnMemory) same spent = tt
turn-refused e form event c d asks left (Err NoTurn) same spent =
    let none = one_less-none c.left d.left left (spent.0 refl) in
    (refl, none.0, record { added = same ∙ sym (append-nil c.entries); turns = none.1 }, event, asks)

-- no whole line was read
pub unread : (t : NamedContext) (e : ℕ) (a b : DuplexState) (c : DeskProgress) (ahead ahead' : Text) (ended : Ended) → ReadsOn a b ahead ahead'
    → LacksLine a b ahead' ended → Halts t e a b c c ahead ended
unread t e a b c ahead ahead' ended r h = record {
  more = [];
  rest = ahead';
  taken = r.taken;
  sent = [];
  unsent = [];
  each = All-nil (IsExchange t.context.width e);
  moves = r.moves;
  enters = Enters-nil c;
  read = sym r.joined;
  said = refl;
  halts = at ended h;
}
  where
    at : (ended : Ended) → LacksLine a b ahead' ended → HaltsAt t.context.width e a b c ended [] ahead' []
    at EndOfInput h = (refl, refl, h.0, h.1, record { read_faults = h.2; write_faults = r.write_faults })
    at ReadFault h = (refl, refl, h.0, h.1, r.write_faults)
    at LongLine h = (refl, refl, h.0, record { read_faults = h.1; write_faults = r.write_faults })
    at Quit h = absurd h
    at WriteFault h = absurd h
    at Limit h = absurd h
    at Spent h = absurd h
    at Memory h = absurd h

begins-event : (n e : ℕ) (text : Text) (at : ℕ) (event : SetEvent) → HasFeedAt text at → at ≤ LINE_BYTES
    → Asks e (request_form (take at text) n) event → BeginsWithEvent n e text
begins-event n e text at event feed few asks = record {
  line = take at text;
  more = drop (at + 1) text;
  event = event;
  split = feed.split;
  short = let cut = length-take at text in omega (arith, cut, few);
  unbroken = feed.unbroken;
  asks = asks;
}

-- the line was read, and no turn was left for it
pub unturned : (t : NamedContext) (e : ℕ) (a b : DuplexState) (c d : DeskProgress) (ahead ahead' : Text) (at : ℕ) (ended : Ended)
    (event : SetEvent)
    → ReadsOn a b ahead ahead' → b.read_faults ≡ a.read_faults
    → HasFeedAt ahead' at → at ≤ LINE_BYTES → Asks e (request_form (take at ahead') t.context.width) event → ended ≡ Spent
    → d.left ≡ Some 0 → Enters c d [] 0
    → Halts t e a b c d ahead ended
unturned t e a b c d ahead ahead' at ended event r quiet feed few asks s none enters = record {
  more = [];
  rest = ahead';
  taken = r.taken;
  sent = [];
  unsent = [];
  each = All-nil (IsExchange t.context.width e);
  moves = r.moves;
  enters = enters;
  read = sym r.joined;
  said = refl;
  halts = subst (λ x. HaltsAt t.context.width e a b d x [] ahead' []) (sym s) (
    refl,
    refl,
    none,
    begins-event t.context.width e ahead' at event feed few asks,
    record { read_faults = quiet; write_faults = r.write_faults },
  );
}

one_turn : (turns : ℕ) → turns ≡ turns + 0
one_turn turns = omega arith

-- the line was read, and answered; then what was read is the line, and what stands ahead now
module _ (t : NamedContext) (e : ℕ) (a b b' : DuplexState) (c d : DeskProgress) (ahead ahead' ahead'' : Text) (at : ℕ) (said : Said)
    (made : List SetEntry) (turns : ℕ)
    (r : ReadsOn a b ahead ahead') (still : b.read_faults ≡ a.read_faults) (feed : HasFeedAt ahead' at) (few : at ≤ LINE_BYTES)
    (answered : Says e (request_form (take at ahead') t.context.width) said made turns)
    (enters : Enters c d made turns) (gone : ahead'' ≡ drop (at + 1) ahead') where
  abbrev exchange : Exchange
  exchange = record { line = take at ahead'; said = said; made = made; turns = turns }

  read_quiet : IsQuiet a b
  read_quiet = record { read_faults = still; write_faults = r.write_faults }

  line_read : ahead ++ r.taken ≡ (take at ahead' ++ line_end) ++ ahead''
  line_read = sym r.joined ∙ feed.split ∙ ap (λ z. (take at ahead' ++ line_end) ++ z) (sym gone)

  pub line-served : Moves b b' [] (said_line t.attributes said) → IsQuiet b b' → said ≢ Bye → Serves t e a b' c d ahead ahead''
  line-served moves quiet asks = record {
    exchange = exchange;
    is = is-exchange t.context.width e ahead' at said made turns feed few answered;
    asking = not_bye e (request_form (take at ahead') t.context.width) said made turns answered asks;
    taken = r.taken ++ [];
    moves = Moves-trans r.moves moves;
    enters = enters;
    quiet = IsQuiet-trans read_quiet quiet;
    read = ap (λ z. ahead ++ z) (append-nil r.taken) ∙ line_read;
  }

  pub line-quits : Moves b b' [] (said_line t.attributes said) → IsQuiet b b' → said ≡ Bye → Halts t e a b' c d ahead Quit
  line-quits moves quiet bye = record {
    more = exchange ∷ [];
    rest = ahead'';
    taken = r.taken ++ [];
    sent = said_line t.attributes said;
    unsent = [];
    each = All-one (IsExchange t.context.width e) _ (is-exchange t.context.width e ahead' at said made turns feed few answered);
    moves = Moves-trans r.moves moves;
    enters = Enters-equal (sym (append-nil made)) (one_turn turns) enters;
    read = ap (λ z. ahead ++ z) (append-nil r.taken) ∙ line_read ∙ ap (λ z. z ++ ahead'') (sym (append-nil (take at ahead' ++ line_end)));
    said = refl;
    halts = (
      exchange,
      refl,
      bye_quits e (request_form (take at ahead') t.context.width) said made turns answered bye,
      refl,
      IsQuiet-trans read_quiet quiet,
    );
  }

  pub line-unanswered : (result : Result (Unit {0}) Put) → SendsText b b' (said_line t.attributes said) result → is_err result ≡ true
      → Halts t e a b' c d ahead WriteFault
  line-unanswered result w failed = record {
    more = exchange ∷ [];
    rest = ahead'';
    taken = r.taken ++ [];
    sent = w.sent;
    unsent = w.unsent;
    each = All-one (IsExchange t.context.width e) _ (is-exchange t.context.width e ahead' at said made turns feed few answered);
    moves = Moves-trans r.moves w.moves;
    enters = Enters-equal (sym (append-nil made)) (one_turn turns) enters;
    read = ap (λ z. ahead ++ z) (append-nil r.taken) ∙ line_read ∙ ap (λ z. z ++ ahead'') (sym (append-nil (take at ahead' ++ line_end)));
    said = append-nil (said_line t.attributes said) ∙ w.split;
    halts = (
      exchange,
      refl,
      Rose-later a.write_faults b.write_faults b'.write_faults r.moves.write_faults (write_rose result w failed),
      w.read_faults ∙ still,
    );
  }

-- ---- all lines

pub greeted : (t : NamedContext) (e : ℕ) (a b : DuplexState) (c : DeskProgress) (result : Result (Unit {0}) Put)
    → SendsText a b (greeting t e) result
    → is_err result ≡ false → Goes t e a b c c [] 0
greeted t e a b c result w ok = record {
  served = [];
  each = All-nil (IsExchange t.context.width e);
  asking = All-nil (IsNotQuit t.context.width);
  count = refl;
  taken = [];
  moves = Moves-equal refl (sym (append-nil (greeting t e))) (sent_whole result w ok);
  enters = Enters-nil c;
  quiet = sent_quiet result w ok;
  read = refl;
}

pub ungreeted : (t : NamedContext) (e lines : ℕ) (a b : DuplexState) (c : DeskProgress) (result : Result (Unit {0}) Put)
    → SendsText a b (greeting t e) result → is_err result ≡ true
    → HasServed t e lines a b c c WriteFault
ungreeted t e lines a b c result w failed = record {
  taken = [];
  sent = w.sent;
  moves = w.moves;
  lines_served = record {
    served = [];
    rest = [];
    unsent = w.unsent;
    each = All-nil (IsExchange t.context.width e);
    quit_last = All-nil (IsNotQuit t.context.width);
    few = omega arith;
    lines_taken = refl;
    answers_sent = append-nil (greeting t e) ∙ w.split;
    whole = inr (write_rose result w failed);
  };
  enters = Enters-nil c;
  closes = (write_rose result w failed, tt, w.read_faults);
}

pub one_more_line : (t : NamedContext) (e : ℕ) (a b b' : DuplexState) (c d d' : DeskProgress) (ahead ahead' : Text) (k : ℕ)
    → Goes t e a b c d ahead k
    → Serves t e b b' d d' ahead ahead'
    → Goes t e a b' c d' ahead' (k + 1)
one_more_line t e a b b' c d d' ahead ahead' k x y =
    let all = x.served ++ y.exchange ∷ [] in
    let replies : (greeting t e ++ answers_text t.attributes x.served) ++ said_line t.attributes y.exchange.said ≡ greeting t e
    ++ answers_text t.attributes all =
    append_assoc (greeting t e) (answers_text t.attributes x.served) (said_line t.attributes y.exchange.said)
    ∙ ap (λ z. greeting t e ++ z) (ap (λ z. answers_text t.attributes x.served ++ z)
    (sym (append-nil (said_line t.attributes y.exchange.said))) ∙ sym (answers_text-append t.attributes x.served (y.exchange ∷ []))) in
    let entries : entries_of x.served ++ y.exchange.made ≡ entries_of all =
    ap (λ z. entries_of x.served ++ z) (sym (append-nil y.exchange.made)) ∙ sym (entries_of-append x.served (y.exchange ∷ [])) in
    let lines : lines_of x.served ++ (y.exchange.line ++ line_end) ≡ lines_of all =
    ap (λ z. lines_of x.served ++ z) (sym (append-nil (y.exchange.line ++ line_end))) ∙ sym (lines_of-append x.served (y.exchange ∷ [])) in
    let number = length-append x.served (y.exchange ∷ []) in
    let turns = turns_of-append x.served (y.exchange ∷ []) in
    let before = x.count in
    record {
      served = all;
      each = All-append (IsExchange t.context.width e) x.served (y.exchange ∷ []) x.each
          (All-one (IsExchange t.context.width e) y.exchange y.is);
      asking = All-append (IsNotQuit t.context.width) x.served (y.exchange ∷ []) x.asking
          (All-one (IsNotQuit t.context.width) y.exchange y.asking);
      count = omega arith;
      taken = x.taken ++ y.taken;
      moves = Moves-equal refl replies (Moves-trans x.moves y.moves);
      enters = Enters-equal entries (omega arith) (Enters-trans x.enters y.enters);
      quiet = IsQuiet-trans x.quiet y.quiet;
      read = ap (λ z. z ++ y.taken) x.read ∙ append_assoc (lines_of x.served) ahead y.taken ∙ ap (λ z. lines_of x.served ++ z) y.read
          ∙ sym (append_assoc (lines_of x.served) (y.exchange.line ++ line_end) ahead') ∙ ap (λ z. z ++ ahead') lines;
    }

pub limited : (t : NamedContext) (e lines : ℕ) (a b : DuplexState) (c d : DeskProgress) (ahead : Text) → Goes t e a b c d ahead lines
    → HasServed t e lines a b c d Limit
limited t e lines a b c d ahead x = record {
  taken = x.taken;
  sent = greeting t e ++ answers_text t.attributes x.served;
  moves = x.moves;
  lines_served = record {
    served = x.served;
    rest = ahead;
    unsent = [];
    each = x.each;
    quit_last = before_last-All (IsNotQuit t.context.width) x.served x.asking;
    few = let all = x.count in omega arith;
    lines_taken = x.read;
    answers_sent = sym (append-nil (greeting t e ++ answers_text t.attributes x.served));
    whole = inl refl;
  };
  enters = x.enters;
  closes = (x.asking, x.count, refl, x.quiet);
}

-- ---- the last line

-- what was served before the session halted, and what was sent of its last answer
record Last (t : NamedContext) (e lines : ℕ) (xs more : List Exchange) (sent : Text) : Type 0 where
  asking : All (IsNotQuit t.context.width) xs
  fewer : length xs < lines
  part : Text
  split : sent ≡ (greeting t e ++ answers_text t.attributes xs) ++ part

-- at most one line more was served
more-few : (n e : ℕ) (a b : DuplexState) (d : DeskProgress) (ended : Ended) (more : List Exchange) (rest unsent : Text)
    → HaltsAt n e a b d ended more rest unsent → (more ≡ []) ⊎ ((x : Exchange) × (more ≡ x ∷ []))
more-few n e a b d Quit more rest unsent h = inr (h.0, h.1)
more-few n e a b d WriteFault more rest unsent h = inr (h.0, h.1)
more-few n e a b d EndOfInput more rest unsent h = inl h.0
more-few n e a b d ReadFault more rest unsent h = inl h.0
more-few n e a b d LongLine more rest unsent h = inl h.0
more-few n e a b d Spent more rest unsent h = inl h.0
more-few n e a b d Limit more rest unsent h = absurd h
more-few n e a b d Memory more rest unsent h = absurd h

-- all but the last were not `quit`
more-order : (P : Exchange → Type 0) (xs more : List Exchange) → All P xs → (more ≡ []) ⊎ ((x : Exchange) × (more ≡ x ∷ []))
    → All P (before_last (xs ++ more))
more-order P xs more all h = elim h as (λ _. All P (before_last (xs ++ more))) [
  | inl none ↦ subst (λ z. All P (before_last (xs ++ z))) (sym none)
      (subst (λ z. All P (before_last z)) (sym (append-nil xs)) (before_last-All P xs all))
  | inr one ↦ subst (λ z. All P (before_last (xs ++ z))) (sym one.1) (subst (All P) (sym (before_last-snoc xs one.0)) all)
]

more-length : (xs more : List Exchange) → (more ≡ []) ⊎ ((x : Exchange) × (more ≡ x ∷ [])) → length (xs ++ more) ≤ length xs + 1
more-length xs more h =
    let all = length-append xs more in
    elim h as (λ _. length (xs ++ more) ≤ length xs + 1) [
      | inl none ↦ (let number : length more ≡ 0 = ap length none in omega arith)
      | inr one ↦ (let number : length more ≡ 1 = ap length one.1 in omega arith)
    ]

-- no line more was served
goes_on : (n lines : ℕ) (xs more : List Exchange) → All (IsNotQuit n) xs → length xs < lines → more ≡ [] → GoesOn n lines (xs ++ more)
goes_on n lines xs more asking fewer none = record {
  asking = subst (λ z. All (IsNotQuit n) (xs ++ z)) (sym none) (subst (All (IsNotQuit n)) (sym (append-nil xs)) asking);
  fewer = let all = length-append xs more in let number : length more ≡ 0 = ap length none in omega arith;
}

has_quit : (n : ℕ) (xs more : List Exchange) (x : Exchange) → more ≡ x ∷ [] → IsQuit n x → HasQuit n (xs ++ more)
has_quit n xs more x one quit = record {
  last = x;
  split = ap (λ z. xs ++ z) one ∙ ap (λ z. z ++ x ∷ []) (sym (before_last-snoc xs x)) ∙ ap (λ z. before_last (xs ++ z) ++ x ∷ []) (sym one);
  quit = quit;
}

lacks_last : (t : NamedContext) (e : ℕ) (xs : List Exchange) (x : Exchange) (served : List Exchange) (sent part : Text)
    → served ≡ xs ++ x ∷ []
    → sent ≡ (greeting t e ++ answers_text t.attributes xs) ++ part → LacksLastAnswer t e served sent
lacks_last t e xs x [] sent part split all = tt
lacks_last t e xs x (y ∷ ys) sent part split all =
    let front : before_last (y ∷ ys) ≡ xs = ap before_last split ∙ before_last-snoc xs x in
    (part, all ∙ ap (λ z. (greeting t e ++ answers_text t.attributes z) ++ part) (sym front))

closing : (t : NamedContext) (e lines : ℕ) (a b b' : DuplexState) (d : DeskProgress) (xs more : List Exchange) (rest sent unsent : Text)
    → Last t e lines xs more sent → IsQuiet a b
    → (ended : Ended) → HaltsAt t.context.width e b b' d ended more rest unsent
    → Closes t e lines a b' d ended (xs ++ more) rest sent unsent
closing t e lines a b b' d xs more rest sent unsent l quiet Quit h =
    (has_quit t.context.width xs more h.0 h.1 h.2, h.3, IsQuiet-trans quiet h.4)
closing t e lines a b b' d xs more rest sent unsent l quiet EndOfInput h =
    (goes_on t.context.width lines xs more l.asking l.fewer h.0, h.2, h.3, h.1, IsQuiet-trans quiet h.4)
closing t e lines a b b' d xs more rest sent unsent l quiet ReadFault h = (
  goes_on t.context.width lines xs more l.asking l.fewer h.0,
  subst (λ n. Rose n b'.read_faults) quiet.read_faults h.2,
  h.3,
  h.1,
  h.4
      ∙ quiet.write_faults,
)
closing t e lines a b b' d xs more rest sent unsent l quiet LongLine h =
    (goes_on t.context.width lines xs more l.asking l.fewer h.0, h.2, h.1, IsQuiet-trans quiet h.3)
closing t e lines a b b' d xs more rest sent unsent l quiet WriteFault h = (
  subst (λ n. Rose n b'.write_faults) quiet.write_faults h.2,
  lacks_last t e xs h.0 (xs ++ more) sent l.part (ap (λ z. xs ++ z) h.1) l.split,
  h.3 ∙ quiet.read_faults,
)
closing t e lines a b b' d xs more rest sent unsent l quiet Spent h =
    (h.2, goes_on t.context.width lines xs more l.asking l.fewer h.0, h.3, h.1, IsQuiet-trans quiet h.4)
closing t e lines a b b' d xs more rest sent unsent l quiet Limit h = absurd h
closing t e lines a b b' d xs more rest sent unsent l quiet Memory h = absurd h

-- all that can be sent was sent, where no write failed
whole_or_failed : (n e : ℕ) (a b b' : DuplexState) (d : DeskProgress) (ended : Ended) (more : List Exchange) (rest unsent : Text)
    → a.write_faults ≤ b.write_faults
    → HaltsAt n e b b' d ended more rest unsent
    → (unsent ≡ []) ⊎ Rose a.write_faults b'.write_faults
whole_or_failed n e a b b' d Quit more rest unsent w h = inl h.3
whole_or_failed n e a b b' d WriteFault more rest unsent w h = inr (Rose-later a.write_faults b.write_faults b'.write_faults w h.2)
whole_or_failed n e a b b' d EndOfInput more rest unsent w h = inl h.1
whole_or_failed n e a b b' d ReadFault more rest unsent w h = inl h.1
whole_or_failed n e a b b' d LongLine more rest unsent w h = inl h.1
whole_or_failed n e a b b' d Spent more rest unsent w h = inl h.1
whole_or_failed n e a b b' d Limit more rest unsent w h = absurd h
whole_or_failed n e a b b' d Memory more rest unsent w h = absurd h

pub halted : (t : NamedContext) (e lines : ℕ) (a b b' : DuplexState) (c d d' : DeskProgress) (ahead : Text) (k : ℕ) (ended : Ended)
    → Goes t e a b c d ahead k → k < lines → Halts t e b b' d d' ahead ended
    → HasServed t e lines a b' c d' ended
halted t e lines a b b' c d d' ahead k ended x below y =
    let all = x.served ++ y.more in
    let before = x.count in
    let fewer : length x.served < lines = omega arith in
    let few = more-few t.context.width e b b' d' ended y.more y.rest y.unsent y.halts in
    let turns = turns_of-append x.served y.more in
    let sent = (greeting t e ++ answers_text t.attributes x.served) ++ y.sent in
    record {
      taken = x.taken ++ y.taken;
      sent = sent;
      moves = Moves-trans x.moves y.moves;
      lines_served = record {
        served = all;
        rest = y.rest;
        unsent = y.unsent;
        each = All-append (IsExchange t.context.width e) x.served y.more x.each y.each;
        quit_last = more-order (IsNotQuit t.context.width) x.served y.more x.asking few;
        few = let most = more-length x.served y.more few in omega arith;
        lines_taken = ap (λ z. z ++ y.taken) x.read ∙ append_assoc (lines_of x.served) ahead y.taken
            ∙ ap (λ z. lines_of x.served ++ z) y.read
            ∙ sym (append_assoc (lines_of x.served) (lines_of y.more) y.rest)
            ∙ ap (λ z. z ++ y.rest) (sym (lines_of-append x.served y.more));
        answers_sent = ap (λ z. greeting t e ++ z) (answers_text-append t.attributes x.served y.more
            ∙ ap (λ z. answers_text t.attributes x.served ++ z) y.said)
            ∙ sym (append_assoc (greeting t e) (answers_text t.attributes x.served) (y.sent ++ y.unsent))
            ∙ sym (append_assoc (greeting t e ++ answers_text t.attributes x.served) y.sent y.unsent);
        whole = whole_or_failed t.context.width e a b b' d' ended y.more y.rest y.unsent x.moves.write_faults y.halts;
      };
      enters = Enters-equal (sym (entries_of-append x.served y.more)) (sym turns) (Enters-trans x.enters y.enters);
      closes = closing t e lines a b b' d' x.served y.more y.rest sent y.unsent
          (record { asking = x.asking; fewer = fewer; part = y.sent; split = refl }) x.quiet ended y.halts;
    }
