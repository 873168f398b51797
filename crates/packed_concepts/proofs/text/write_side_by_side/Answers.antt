use Rattle.std.proofs.Common.{◌≡◌, ◌∙◌, ◌++◌, ◌^◌, ◌<◌, ℕ, List, All, length, sym, ap, ap₂, subst, arith}
use Rattle.std.specs.List.{flat_map}
use denote.Ref.{Bor}
use Rattle.fca_model.specs.Tables.{Text}
use Rattle.expert_wire.proofs.WriteLemmas.{Writes-equal}
use Rattle.packed_concepts.specs.Lines.{TableNames, lines_from, count_line_of}
use Rattle.packed_concepts.specs.Packing.{IsNamed, HasRoomForLine}
use Rattle.packed_concepts.specs.Stretches.{StretchConcepts, job_lines, all_lines, concepts_of, IsReady, HasRoomForLines}
use Rattle.packed_concepts.proofs.StretchLemmas.{All-parts, ready-all, lines-jobs}
use Rattle.packed_concepts.proofs.text.write_side_by_side.Goals as goal

pub write_jobs_counted-requires-after_bounds : goal.write_jobs_counted-requires-after_bounds
write_jobs_counted-requires-after_bounds g c κs within =
    let t : TableNames = c.args.names.now in
    let n : ℕ = length c.deref_mut.result.now in
    let made : List StretchConcepts = c.in-Ok.stretches.items in
    let jobs : List (Bor (List StretchConcepts)) = c.in-Ok-line_jobs.jobs.items in
    let named : All (IsNamed t) (concepts_of made) = subst (All (IsNamed t)) (sym c.in-Ok.ensures.concepts) c.requires.named in
    let small : length (concepts_of made) < 2 ^ 64 = omega (arith, ap length c.in-Ok.ensures.concepts, c.requires.count, c.ranges.count.fits) in
    let room : n ≡ length c.args.buffer.now.items = ap length c.deref_mut.ensures.value in
    let enough : All (HasRoomForLine n) (concepts_of made) = subst (All (HasRoomForLine n)) (sym c.in-Ok.ensures.concepts)
    (subst (λ m. All (HasRoomForLine m) (flat_map (λ x. x) c.args.pages.now)) (sym room) c.requires.enough) in
    let grouped : flat_map (λ (job : Bor (List StretchConcepts)). job.now) jobs ≡ made = c.in-Ok-line_jobs.ensures ∙ c.deref.ensures.value in (
      omega arith,
      (
        subst (λ (js : List (Bor (List StretchConcepts))). All (λ job. All (IsReady t) job.now) js) (sym c.deref-2.ensures.value)
            (All-parts (IsReady t) (λ (job : Bor (List StretchConcepts)). job.now) jobs
            (subst (All (IsReady t)) (sym grouped) (ready-all t made c.in-Ok.ensures.follow named small))),
        (
          subst (λ (js : List (Bor (List StretchConcepts))). All (λ job. All (HasRoomForLines n) job.now) js) (sym c.deref-2.ensures.value)
              (All-parts (HasRoomForLines n) (λ (job : Bor (List StretchConcepts)). job.now) jobs
              (subst (All (HasRoomForLines n)) (sym grouped) (All-parts (HasRoomForLine n) (λ (s : StretchConcepts). s.concepts) made enough))),
          (
            omega (arith, room, c.requires.room),
            omega (arith, ap length c.deref_mut-2.ensures.value, c.in-Ok-sheets_of.ensures, c.if-threads-lt2.false),
          ),
        ),
      ),
    )

pub returns-clause-written : goal.returns-clause-written
returns-clause-written g c =
    let t : TableNames = c.args.names.now in
    let made : List StretchConcepts = c.in-Ok.stretches.items in
    let jobs : List (Bor (List StretchConcepts)) = c.in-Ok-line_jobs.jobs.items in
    let grouped : flat_map (λ (job : Bor (List StretchConcepts)). job.now) jobs ≡ made = c.in-Ok-line_jobs.ensures ∙ c.deref.ensures.value in
    let lines : all_lines t c.deref-2.result.now ≡ lines_from t 0 (flat_map (λ x. x) c.args.pages.now) =
    ap (all_lines t) c.deref-2.ensures.value ∙ lines-jobs t jobs ∙ ap (job_lines t) grouped ∙ c.in-Ok.ensures.follow.lines t
    ∙ ap (lines_from t 0) c.in-Ok.ensures.concepts in
    Writes-equal (ap₂ (λ n (z : Text). count_line_of n ++ z) c.requires.count lines) c.write_jobs_counted.ensures
