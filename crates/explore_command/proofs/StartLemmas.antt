-- The tables of experts are read one after the other: what may be read of the files that are left may be read behind those before,
-- a refusal there refuses all, and a stop there is one of all.
use Rattle.std.proofs.Common.{◌≡◌, ◌∙◌, ◌≤◌, ◌<◌, ◌+◌, ◌++◌, ◌∷◌, [], ℕ, suc, List, Bool, true, Option, length, get_or, drop, inl, inr}
use Rattle.std.proofs.Common.{refl, sym, ap, subst, append_assoc, append-nil, arith}
use Rattle.std.specs.Prelude.{bytes_eq}
use Rattle.std.proofs.Math.Seq.{drop-cons}
use Rattle.std.proofs.lemmas.List.{drop_all}
use Rattle.std.proofs.lemmas.Bool.{and_parts, cases_Bool}
use Rattle.std.proofs.lemmas.Slice.Eq.{bytes_eq-Decides}
use Rattle.fca_model.specs.Tables.{Text, NamedContext}
use Rattle.fca_io.specs.Shelves.{Told}
use Rattle.command_io.specs.Readings.{Reading, then, MayRead, MayRefuse, Rises}
use Rattle.command_io.specs.Known.{Start, start_read}
use Rattle.command_io.specs.Readings.Reading.{Untold, Missing, Refused, Read}
use Rattle.command_io.proofs.ReadingLemmas.{refused_then, refused_after, read_after}
use Rattle.command_io.proofs.KnownLemmas.{Rises-before}
use Rattle.command_io.specs.Causes.{IsFileStop}
use Rattle.explore_command.specs.Starts.{ExploreStart, same_names, if_agreeing, expert_read, experts_read, settings_by, explore_read}
use Rattle.explore_command.specs.Starts.{IsExpertStop, IsExpertsStop}
use Rattle.command_io.specs.Forms.{table_read}
use Rattle.command_io.specs.declared.stop.Origin.{Origin}
use Rattle.command_io.specs.declared.stop.Origin.TheVariants.{Later}
use Rattle.command_io.specs.declared.stop.Stop.{Stop}
use Rattle.command_io.specs.declared.stop.Stop.TheVariants.{ReadFault, Memory}

-- ---- names

-- lists of names are told to be the same exactly where they are
same_names-same : (names others : List Text) → same_names names others ≡ true → names ≡ others
same_names-same [] [] h = refl
same_names-same [] (other ∷ others) h = cc
same_names-same (name ∷ names) [] h = cc
same_names-same (name ∷ names) (other ∷ others) h =
    let parts = and_parts (bytes_eq name other) (same_names names others) h in
    let first : name ≡ other = (bytes_eq-Decides name other).0 parts.0 in
    let rest = same_names-same names others parts.1 in
    cc

same_names-self : (names : List Text) → same_names names names ≡ true
same_names-self [] = refl
same_names-self (name ∷ names) = rw ((bytes_eq-Decides name name).1 refl) (same_names-self names)

pub if_agreeing-same : (table D : NamedContext) → D.attributes ≡ table.attributes → if_agreeing table D ≡ Read D
if_agreeing-same table D same =
    let told : same_names D.attributes table.attributes ≡ true = rw same (same_names-self table.attributes) in rw told refl

pub if_agreeing-other : (table D : NamedContext) → ¬ (D.attributes ≡ table.attributes) → if_agreeing table D ≡ Refused
if_agreeing-other table D other = elim (cases_Bool (same_names D.attributes table.attributes)) [
  | inl told ↦ absurd (other (same_names-same D.attributes table.attributes told))
  | inr told ↦ rw told refl
]

-- ---- one file more

-- what may be read of these files, from this place on, may be read of all, behind these tables; and their stops are stops of all
pub record ReadsOn (table : NamedContext) (place : ℕ) (files all : List Text) (tells : Text → Told) (counts : Text → ℕ)
    (before : List NamedContext) : Type 0 where
  pub read : (later : List NamedContext) → MayRead (experts_read table files tells) later
      → MayRead (experts_read table all tells) (before ++ later)
  pub refused : MayRefuse (experts_read table files tells) → MayRefuse (experts_read table all tells)
  pub stops : (after : Text → ℕ) (s : Stop) → IsExpertsStop table place files tells (Rises counts after) s
      → IsExpertsStop table 0 all tells (Rises counts after) s

pub ReadsOn-none : (table : NamedContext) (all : List Text) (tells : Text → Told) (counts : Text → ℕ)
    → ReadsOn table 0 all all tells counts []
ReadsOn-none table all tells counts = record { read = λ later may. may; refused = λ may. may; stops = λ after s is. is }

read_behind : (D : NamedContext) (rest : Reading (List NamedContext)) (later : List NamedContext) → MayRead rest later
    → MayRead (then rest (λ experts. Read (D ∷ experts))) (D ∷ later)
read_behind D Untold later may = tt
read_behind D Missing later may = may
read_behind D Refused later may = may
read_behind D (Read experts) later may = ap (λ l. D ∷ l) may

refused_behind : (D : NamedContext) (rest : Reading (List NamedContext)) → MayRefuse rest
    → MayRefuse (then rest (λ experts. Read (D ∷ experts)))
refused_behind D Untold may = tt
refused_behind D Missing may = may
refused_behind D Refused may = tt
refused_behind D (Read experts) may = may

first_read : (D : NamedContext) (first : Reading NamedContext) (rest : Reading (List NamedContext)) (later : List NamedContext)
    → MayRead first D → MayRead rest later
    → MayRead (then first (λ D. then rest (λ experts. Read (D ∷ experts)))) (D ∷ later)
first_read D Untold rest later here may = tt
first_read D Missing rest later here may = here
first_read D Refused rest later here may = here
first_read D (Read E) rest later here may =
    let P : NamedContext → Type 0 = λ x. MayRead (then rest (λ experts. Read (x ∷ experts))) (D ∷ later) in
    subst P here (read_behind D rest later may)

first_refused : (D : NamedContext) (first : Reading NamedContext) (rest : Reading (List NamedContext)) → MayRead first D → MayRefuse rest
    → MayRefuse (then first (λ D. then rest (λ experts. Read (D ∷ experts))))
first_refused D Untold rest here may = tt
first_refused D Missing rest here may = here
first_refused D Refused rest here may = tt
first_refused D (Read E) rest here may = refused_behind E rest may

pub ReadsOn-more : (table : NamedContext) (place : ℕ) (file : Text) (files all : List Text) (tells : Text → Told) (counts : Text → ℕ)
    (before : List NamedContext) (D : NamedContext)
    → MayRead (expert_read table file tells) D → ReadsOn table place (file ∷ files) all tells counts before
    → ReadsOn table (place + 1) files all tells counts (before ++ D ∷ [])
ReadsOn-more table place file files all tells counts before D here on = record {
  read = λ later may.
      let P : List NamedContext → Type 0 = MayRead (experts_read table all tells) in
      subst P (sym (append_assoc before (D ∷ []) later))
      (on.read (D ∷ later) (first_read D (expert_read table file tells) (experts_read table files tells) later here may));
  refused = λ may. on.refused (first_refused D (expert_read table file tells) (experts_read table files tells) here may);
  stops = λ after s is. on.stops after s (inr (D, here, is));
}

refused_here : (first : Reading NamedContext) (rest : Reading (List NamedContext)) → MayRefuse first
    → MayRefuse (then first (λ D. then rest (λ experts. Read (D ∷ experts))))
refused_here Untold rest may = tt
refused_here Missing rest may = may
refused_here Refused rest may = tt
refused_here (Read E) rest may = absurd may

pub ReadsOn-refused : (table : NamedContext) (place : ℕ) (file : Text) (files all : List Text) (tells : Text → Told) (counts : Text → ℕ)
    (before : List NamedContext)
    → MayRefuse (expert_read table file tells) → ReadsOn table place (file ∷ files) all tells counts before
    → MayRefuse (experts_read table all tells)
ReadsOn-refused table place file files all tells counts before may on =
    on.refused (refused_here (expert_read table file tells) (experts_read table files tells) may)

-- ---- files one after the other

-- a file tells the same later
expert_read-same : (table : NamedContext) (file : Text) (tells now : Text → Told) → now file ≡ tells file
    → expert_read table file now ≡ expert_read table file tells
expert_read-same table file tells now same = ap (λ told. then (table_read file told) (if_agreeing table)) same

experts_read-same : (table : NamedContext) (files : List Text) (tells now : Text → Told) → ((other : Text) → now other ≡ tells other)
    → experts_read table files now ≡ experts_read table files tells
experts_read-same table [] tells now same = refl
experts_read-same table (file ∷ files) tells now same =
    let first = expert_read-same table file tells now (same file) in
    let rest = experts_read-same table files tells now same in
    ap (λ r. then r (λ D. then (experts_read table files now) (λ experts. Read (D ∷ experts)))) first
    ∙ ap (λ r. then (expert_read table file tells) (λ D. then r (λ experts. Read (D ∷ experts)))) rest

-- the files that are left begin with the one at hand
left_files : (files : List Text) (i : ℕ) (file : Text) → i < length files → file ≡ get_or files i file
    → drop i files ≡ file ∷ drop (i + 1) files
left_files files i file inside is =
    let next : suc i ≡ i + 1 = omega arith in
    drop-cons files i file inside ∙ ap (λ x. x ∷ drop (suc i) files) (sym is) ∙ ap (λ n. file ∷ drop n files) next

pub ReadsOn-next : (table : NamedContext) (files : List Text) (i : ℕ) (file : Text) (tells now : Text → Told) (counts : Text → ℕ)
    (before : List NamedContext) (D : NamedContext)
    → i < length files → file ≡ get_or files i file → ((other : Text) → now other ≡ tells other) → MayRead (expert_read table file now) D
    → ReadsOn table i (drop i files) files tells counts before
    → ReadsOn table (i + 1) (drop (i + 1) files) files tells counts (before ++ D ∷ [])
ReadsOn-next table files i file tells now counts before D inside is same may on =
    let P : List Text → Type 0 = λ l. ReadsOn table i l files tells counts before in
    let Q : Reading NamedContext → Type 0 = λ r. MayRead r D in
    ReadsOn-more table i file (drop (i + 1) files) files tells counts before D
    (subst Q (expert_read-same table file tells now (same file)) may) (subst P (left_files files i file inside is) on)

pub ReadsOn-all : (table : NamedContext) (files : List Text) (i : ℕ) (tells : Text → Told) (counts : Text → ℕ) (tables : List NamedContext)
    → length files ≤ i
    → ReadsOn table i (drop i files) files tells counts tables → MayRead (experts_read table files tells) tables
ReadsOn-all table files i tells counts tables past on =
    let P : List Text → Type 0 = λ l. MayRead (experts_read table l tells) [] in
    let Q : List NamedContext → Type 0 = λ l. MayRead (experts_read table files tells) l in
    subst Q (append-nil tables) (on.read [] (subst P (sym (drop_all i files past)) refl))

pub refused-file : (table : NamedContext) (files : List Text) (i : ℕ) (file : Text) (tells now : Text → Told) (counts : Text → ℕ)
    (before : List NamedContext)
    → i < length files → file ≡ get_or files i file → ((other : Text) → now other ≡ tells other)
    → ReadsOn table i (drop i files) files tells counts before → MayRefuse (expert_read table file now)
    → MayRefuse (experts_read table files tells)
refused-file table files i file tells now counts before inside is same on may =
    let P : List Text → Type 0 = λ l. ReadsOn table i l files tells counts before in
    let M : Reading NamedContext → Type 0 = λ r. MayRefuse r in
    ReadsOn-refused table i file (drop (i + 1) files) files tells counts before
    (subst M (expert_read-same table file tells now (same file)) may) (subst P (left_files files i file inside is) on)

-- ---- which stop it is

-- a file is at fault where a count rose for it
IsFileStop-more : (name : Text) (told : Told) (rose rose' : Type 0) (origin : Origin) (s : Stop) → (rose → rose')
    → IsFileStop name told rose origin s → IsFileStop name told rose' origin s
IsFileStop-more name told rose rose' origin (ReadFault at) more is = (is.0, more is.1)
IsFileStop-more name told rose rose' origin _ more is = is

-- the shelf tells the same later, and a count that rose since then rose since before
IsExpertStop-same : (table : NamedContext) (file : Text) (tells now : Text → Told) (rises rises' : Text → Type 0) (origin : Origin)
    (s : Stop) → now file ≡ tells file
    → (rises file → rises' file) → IsExpertStop table file now rises origin s → IsExpertStop table file tells rises' origin s
IsExpertStop-same table file tells now rises rises' origin s same more (inl is) =
    let P : Told → Type 0 = λ told. IsFileStop file told (rises' file) origin s in
    inl (subst P same (IsFileStop-more file (now file) (rises file) (rises' file) origin s more is))
IsExpertStop-same table file tells now rises rises' origin s same more (inr other) =
    let P : Told → Type 0 = λ told. MayRead (table_read file told) other.1 in
    inr (other.0, other.1, subst P same other.2, other.3)

pub IsExpertsStop-same : (table : NamedContext) (place : ℕ) (files : List Text) (tells now : Text → Told) (rises rises' : Text → Type 0)
    (s : Stop)
    → ((other : Text) → now other ≡ tells other) → ((other : Text) → rises other → rises' other)
    → IsExpertsStop table place files now rises s → IsExpertsStop table place files tells rises' s
IsExpertsStop-same table place [] tells now rises rises' s same more is = is
IsExpertsStop-same table place (file ∷ files) tells now rises rises' s same more (inl is) =
    inl (IsExpertStop-same table file tells now rises rises' (Later place) s (same file) (more file) is)
IsExpertsStop-same table place (file ∷ files) tells now rises rises' s same more (inr later) =
    let Q : Reading NamedContext → Type 0 = λ r. MayRead r later.0 in
    inr (
      later.0,
      subst Q (expert_read-same table file tells now (same file)) later.1,
      IsExpertsStop-same table (place + 1) files tells now rises rises' s same more later.2,
    )

-- of an expert's file, which tells the same now
pub experts-stop : (table : NamedContext) (files : List Text) (i : ℕ) (file : Text) (tells now : Text → Told)
    (counts between after : Text → ℕ) (before : List NamedContext) (s : Stop)
    → i < length files → file ≡ get_or files i file → ((other : Text) → now other ≡ tells other)
    → ((other : Text) → counts other ≤ between other)
    → ReadsOn table i (drop i files) files tells counts before → IsExpertStop table file now (Rises between after) (Later i) s
    → IsExpertsStop table 0 files tells (Rises counts after) s
experts-stop table files i file tells now counts between after before s inside is same later on stop =
    let P : List Text → Type 0 = λ l. ReadsOn table i l files tells counts before in
    let here : ReadsOn table i (file ∷ drop (i + 1) files) files tells counts before = subst P (left_files files i file inside is) on in
    here.stops after s (inl (IsExpertStop-same table file tells now (Rises between after) (Rises counts after) (Later i) s (same file)
    (Rises-before counts between after file later) stop))

pub memory-experts : (table : NamedContext) (place : ℕ) (files : List Text) (tells : Text → Told) (rises : Text → Type 0) (s : Stop)
    → s ≡ Memory → IsExpertsStop table place files tells rises s
memory-experts table place [] tells rises s e = e
memory-experts table place (file ∷ files) tells rises s e = let P : Stop → Type 0 = IsExpertsStop table place (file ∷ files) tells rises in
    subst P (sym e) (inl (inl tt))

-- ---- what `explore` starts from

-- what it starts from with these experts, where this is the start
abbrev explore_start_of : Start → Bool → List Text → List NamedContext → ExploreStart
explore_start_of start names files tables = record { table = start.table; settings = settings_by start.known names files; expert_tables = tables }

-- the same, where the tables are read
abbrev explore_start_by : Start → Bool → List Text → Reading (List NamedContext) → Reading ExploreStart
explore_start_by start names files r = then r (λ tables. Read (explore_start_of start names files tables))

read_start : (start : Start) (names : Bool) (files : List Text) (r : Reading (List NamedContext)) (tables : List NamedContext)
    → MayRead r tables
    → MayRead (explore_start_by start names files r) (explore_start_of start names files tables)
read_start start names files Untold tables may = tt
read_start start names files Missing tables may = may
read_start start names files Refused tables may = may
read_start start names files (Read others) tables may = ap (explore_start_of start names files) may

pub explore-read : (file : Text) (known : Option Text) (names : Bool) (files : List Text) (tells now : Text → Told) (start : Start)
    (tables : List NamedContext)
    → MayRead (start_read file known tells) start → ((other : Text) → now other ≡ tells other)
    → MayRead (experts_read start.table files now) tables
    → MayRead (explore_read file known names files tells) (explore_start_of start names files tables)
explore-read file known names files tells now start tables here same may =
    let Q : Reading (List NamedContext) → Type 0 = λ r. MayRead r tables in
    read_after (start_read file known tells) start (λ s. explore_start_by s names files (experts_read s.table files tells))
    (explore_start_of start names files tables) here
    (read_start start names files (experts_read start.table files tells) tables
    (subst Q (experts_read-same start.table files tells now same) may))

pub refused-explore : (file : Text) (known : Option Text) (names : Bool) (files : List Text) (tells now : Text → Told) (start : Start)
    → MayRead (start_read file known tells) start → ((other : Text) → now other ≡ tells other)
    → MayRefuse (experts_read start.table files now) → MayRefuse (explore_read file known names files tells)
refused-explore file known names files tells now start here same may =
    let M : Reading (List NamedContext) → Type 0 = λ r. MayRefuse r in
    refused_after (start_read file known tells) start (λ s. explore_start_by s names files (experts_read s.table files tells)) here
    (refused_then (experts_read start.table files tells) (λ tables. Read (explore_start_of start names files tables))
    (subst M (experts_read-same start.table files tells now same) may))
