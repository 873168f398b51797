-- The steps of a call, one after the other: a call stops where its table is not read, where its ends fall short, or for memory, and each
-- time it says which ends came and went; ends that have gone through their sessions make an output.
use Rattle.std.proofs.Common.{◌≡◌, ◌≤◌, ◌⊎◌, [], ℕ, nat_le, true, List, length, Option, Result, Ok, Err, inl, inr, refl, sym, subst, arith}
use Rattle.std.proofs.lemmas.Bool.{and_parts, leb-true}
use Rattle.std.specs.Prelude.{IfOk, IfErr}
use Rattle.fca_model.specs.Tables.{Text}
use Rattle.explore_state.specs.History.{Opening}
use Rattle.fca_model.specs.declared.TheConstants.{MAX_EXPERTS}
use Rattle.fca_model.specs.Exploration.{is_expert}
use Rattle.fca_io.specs.Faults.{Rose}
use Rattle.fca_io.specs.Links.{Ends, IsWithinRoom}
use Rattle.fca_io.specs.Shelves.{Told}
use Rattle.command_io.specs.Readings.{MayRead}
use Rattle.command_io.specs.Known.{Start, start_read}
use Rattle.command_io.specs.Endings.{Output, IsRefusal, IsUnread}
use Rattle.command_io.specs.declared.stop.Stop.{Stop}
use Rattle.command_io.specs.declared.stop.Stop.TheVariants.{ListenerFault, Memory}
use Rattle.serve_command.specs.Accepted.{TookFirst, FallsShort}
use Rattle.serve_command.specs.Served.{IsServeStop, IsOutput, GaveAllBack, HasServedAll, HasReturnedEnds}
use Rattle.serve_command.proofs.AcceptedLemmas.{TookAndGave-none, TookAndGave-both}

-- ---- results

pub ok-from-three : {X F : Type 0} (r : Result X F) (P Q R S : X → Type 0) → IfOk r P → IfOk r Q → IfOk r R
    → ((x : X) → P x → Q x → R x → S x) → IfOk r S
ok-from-three (Ok x) P Q R S p q r' all = all x p q r'
ok-from-three (Err e) P Q R S p q r' all = tt

-- ---- counts of faults

-- nothing was counted before and behind
pub Rose-between : (a b c d : ℕ) → b ≡ a → Rose b c → d ≡ c → Rose a d
Rose-between a b c d before rose behind = omega arith

-- ---- stops

-- what came of the link or of memory is no refusal, and not unread
pub heard-refused : (s : Stop) (Refuses : Type 0) → (s ≡ ListenerFault) ⊎ (s ≡ Memory) → IsRefusal s → Refuses
heard-refused s Refuses (inl e) refusal = absurd (subst IsRefusal e refusal)
heard-refused s Refuses (inr e) refusal = absurd (subst IsRefusal e refusal)

pub heard : (s : Stop) (Same : Type 0) → (s ≡ ListenerFault) ⊎ (s ≡ Memory) → IsUnread s → Same
heard s Same (inl e) unread = absurd (subst IsUnread e unread)
heard s Same (inr e) unread = absurd (subst IsUnread e unread)

-- ---- ends

module _ {E : Type 0} where
  pub early-back : (left held : E → Option Text) (reads : E → Option ℕ) (read_faults write_faults : E → ℕ) (count : ℕ) (a : Option (Ends E))
      (failed : Type 0) → 1 ≤ count → GaveAllBack left held reads read_faults write_faults count a a failed
  early-back left held reads read_faults write_faults count a failed some = record {
    before = [];
    after = [];
    ends = TookAndGave-none a;
    talked = inl refl;
    few = omega arith;
    fewer = λ _. (omega arith, refl);
  }

  pub short-back : (left held : E → Option Text) (reads : E → Option ℕ) (read_faults write_faults : E → ℕ) (count : ℕ)
      (a b : Option (Ends E))
      (link_rose : Type 0) (s : Stop) → FallsShort count a b link_rose s
      → GaveAllBack left held reads read_faults write_faults count a b (s ≡ ListenerFault)
  short-back left held reads read_faults write_faults count a b link_rose s short = record {
    before = short.taken;
    after = short.taken;
    ends = short.ends;
    talked = inl refl;
    few = short.few;
    fewer = λ listener. (short.fewer listener, refl);
  }

  returned-back : (left held : E → Option Text) (reads : E → Option ℕ) (read_faults write_faults : E → ℕ) (count : ℕ) (a b c : Option (Ends E))
      (before : List E) (s : Stop) → IsWithinRoom a → TookFirst a b before
      → length before ≡ count → HasReturnedEnds left held reads read_faults write_faults before b c → s ≡ Memory
      → GaveAllBack left held reads read_faults write_faults count a c (s ≡ ListenerFault)
  returned-back left held reads read_faults write_faults count a b c before s within took many risen memory = record {
    before = before;
    after = risen.after;
    ends = TookAndGave-both a b c before risen.after within risen.long took risen.gave;
    talked = risen.talked;
    few = omega arith;
    fewer = λ listener. cc;
  }

  pub returned-ends : (left held : E → Option Text) (reads : E → Option ℕ) (read_faults write_faults : E → ℕ) (count : ℕ)
      (a b c : Option (Ends E))
      (before : List E) (r : Result Output Stop) → IsWithinRoom a
      → TookFirst a b before → length before ≡ count → IfErr r (λ _. HasReturnedEnds left held reads read_faults write_faults before b c)
      → IfErr r (λ stop. stop ≡ Memory)
      → IfErr r (λ stop. GaveAllBack left held reads read_faults write_faults count a c (stop ≡ ListenerFault))
  returned-ends left held reads read_faults write_faults count a b c before (Ok o) within took many risen memory = tt
  returned-ends left held reads read_faults write_faults count a b c before (Err s) within took many risen memory =
      returned-back left held reads read_faults write_faults count a b c before s within took many risen memory

  pub served-output : (left held : E → Option Text) (reads : E → Option ℕ) (read_faults write_faults : E → ℕ) (o : Opening)
      (a b c : Option (Ends E))
      (before : List E) (output : Output)
      → IsWithinRoom a → TookFirst a b before → length before ≡ o.experts
      → HasServedAll left held reads read_faults write_faults o before b c output
      → IsOutput left held reads read_faults write_faults o a c output
  served-output left held reads read_faults write_faults o a b c before output within took many served_all = record {
    before = before;
    after = served_all.after;
    count = many;
    ends = TookAndGave-both a b c before served_all.after within served_all.long took served_all.gave;
    is = served_all.is;
  }

-- ---- which stop it is

pub memory-serve : (file : Text) (known : Option Text) (files : Text → Told) (rises : Text → Type 0) (link_rose : Type 0) (s : Stop)
    → s ≡ Memory
    → IsServeStop file known files rises link_rose s
memory-serve file known files rises link_rose s e = let P : Stop → Type 0 = IsServeStop file known files rises link_rose in
    subst P (sym e) (inl (inl tt))

pub link-serve : (file : Text) (known : Option Text) (files : Text → Told) (rises : Text → Type 0) (link_rose : Type 0) (start : Start)
    (s : Stop) → MayRead (start_read file known files) start
    → (s ≡ ListenerFault → link_rose) → (s ≡ ListenerFault) ⊎ (s ≡ Memory) → IsServeStop file known files rises link_rose s
link-serve file known files rises link_rose start s may rose (inl e) = inr (e, start, may, rose e)
link-serve file known files rises link_rose start s may rose (inr e) = memory-serve file known files rises link_rose s e
