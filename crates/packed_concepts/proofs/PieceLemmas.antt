-- Lists of blocks with the bytes behind each.
use Rattle.std.proofs.Common.{◌≡◌, ℕ, zero, suc, ◌+◌, ◌<◌, ◌≤◌, ◌-◌, List, [], ◌∷◌, ◌++◌, length, map, take, drop, get_or, min, refl, sym}
use Rattle.std.proofs.Common.{ap, ap₂, ◌∙◌, subst, arith, inl, inr}
use Rattle.std.proofs.lemmas.Bool.{cases_lt}
use Rattle.std.proofs.lemmas.List.{length_push, get_or_push, get_or_append_left, length-drop, drop_all, take-append-drop, map_more}
use Rattle.std.proofs.lemmas.List.{length-append}
use Rattle.std.specs.Prelude.{codes}
use Rattle.fca_model.specs.Tables.{Text}
use Rattle.packed_concepts.specs.Listing.{with_comma}
use Rattle.packed_concepts.specs.Pieces.{piece_text, piece_texts, IsPiece, ArePieces}
use Rattle.packed_concepts.specs.declared.block.TextBlock.{TextBlock}

pub length-piece_texts : (bs : List TextBlock) (ts : List Text) → length bs ≡ length ts → length (piece_texts bs ts) ≡ length bs
length-piece_texts [] ts e = refl
length-piece_texts (b ∷ bs) [] e = absurd (omega arith)
length-piece_texts (b ∷ bs) (t ∷ ts) e = ap suc (length-piece_texts bs ts (omega arith))

pub piece_at : (bs : List TextBlock) (ts : List Text) (i : ℕ) (d : TextBlock) → length bs ≡ length ts → i < length bs
    → get_or (piece_texts bs ts) i [] ≡ piece_text (get_or bs i d) (get_or ts i [])
piece_at [] ts i d e l = absurd (omega arith)
piece_at (b ∷ bs) [] i d e l = absurd (omega arith)
piece_at (b ∷ bs) (t ∷ ts) zero d e l = refl
piece_at (b ∷ bs) (t ∷ ts) (suc i) d e l = piece_at bs ts i d (omega arith) (omega arith)

pieces_push : (bs : List TextBlock) (ts : List Text) (b : TextBlock) (t : Text) → length bs ≡ length ts
    → piece_texts (bs ++ b ∷ []) (ts ++ t ∷ []) ≡ piece_texts bs ts ++ piece_text b t ∷ []
pieces_push [] [] b t e = refl
pieces_push [] (u ∷ ts) b t e = absurd (omega arith)
pieces_push (c ∷ bs) [] b t e = absurd (omega arith)
pieces_push (c ∷ bs) (u ∷ ts) b t e = ap (λ xs. piece_text c u ∷ xs) (pieces_push bs ts b t (omega arith))

pub moved : (b c : TextBlock) (t u : Text) → c ≡ b → u ≡ t → IsPiece b t → IsPiece c u
moved b c t u e f h = subst (λ x. IsPiece x u) (sym e) (subst (λ y. IsPiece b y) (sym f) h)

ArePieces-push : (bs : List TextBlock) (ts : List Text) (b : TextBlock) (t : Text) → ArePieces bs ts → IsPiece b t
    → ArePieces (bs ++ b ∷ []) (ts ++ t ∷ [])
ArePieces-push bs ts b t h p = record {
  same = omega (arith, h.same, length_push bs b, length_push ts t);
  each = λ i d l. elim (cases_lt i (length bs)) [
    | inl below ↦ moved (get_or bs i d) (get_or (bs ++ b ∷ []) i d) (get_or ts i []) (get_or (ts ++ t ∷ []) i [])
        (get_or_append_left bs (b ∷ []) d i below)
        (get_or_append_left ts (t ∷ []) [] i (omega (arith, below, h.same))) (h.each i d below)
    | inr last ↦
        let here : length bs ≡ i = omega (arith, last, l, length_push bs b) in
        moved b (get_or (bs ++ b ∷ []) i d) t (get_or (ts ++ t ∷ []) i []) (get_or_push bs b d i here)
        (get_or_push ts t [] i (omega (arith, here, h.same))) p
  ];
}

-- ---- a text that was cut

cut_piece : (text : Text) (b : TextBlock) (tail : Text) → length text ≤ 257 → b.filled ≡ min (length text) 16 → tail ≡ drop 16 text
    → IsPiece b tail
cut_piece text b tail short filled rest =
    let left : length tail ≡ length text - 16 = ap length rest ∙ length-drop 16 text in
    record {
      block = omega (arith, filled);
      short = omega (arith, filled, left, short);
      alone = λ l. rest ∙ drop_all 16 text (omega (arith, filled, l));
    }

-- the names before place i are there
pub record AreNames (names : List Text) (i : ℕ) (bs : List TextBlock) (ts : List Text) : Type 0 where
  pub pieces : ArePieces bs ts
  pub texts : piece_texts bs ts ≡ map with_comma (take i names)

pub names_none : (names : List Text) (bs : List TextBlock) (ts : List Text) → bs ≡ [] → ts ≡ [] → AreNames names 0 bs ts
names_none names bs ts e f = subst (λ xs. AreNames names 0 xs ts) (sym e) (subst (λ ys. AreNames names 0 [] ys) (sym f) (record {
  pieces = record { same = refl; each = λ i d l. absurd (omega arith) };
  texts = refl;
}))

-- one name more
pub piece_added : (name text tail : Text) (b : TextBlock) (bs new : List TextBlock) (ts news : List Text) → length name ≤ 255
    → text ≡ with_comma name → b.filled ≡ min (length text) 16 → take b.filled b.bytes ≡ take 16 text → tail ≡ drop 16 text
    → new ≡ bs ++ b ∷ [] → news ≡ ts ++ tail ∷ []
    → ArePieces bs ts → (ArePieces new news) × (piece_texts new news ≡ piece_texts bs ts ++ with_comma name ∷ [])
piece_added name text tail b bs new ts news short is filled front rest made mades h =
    let wide : length text ≡ length name + 2 = ap length is ∙ length-append name (codes ", ") in
    let p : IsPiece b tail = cut_piece text b tail (omega (arith, wide, short)) filled rest in
    let whole : piece_text b tail ≡ with_comma name = ap₂ (λ x y. x ++ y) front rest ∙ take-append-drop 16 text ∙ is in (
      subst (λ xs. ArePieces xs news) (sym made) (subst (λ ys. ArePieces (bs ++ b ∷ []) ys) (sym mades) (ArePieces-push bs ts b tail h p)),
      ap₂ piece_texts made mades ∙ pieces_push bs ts b tail h.same ∙ ap (λ x. piece_texts bs ts ++ x ∷ []) whole,
    )

pub names_more : (names : List Text) (i : ℕ) (name : Text) (bs new : List TextBlock) (ts news : List Text) → i < length names
    → name ≡ get_or names i []
    → ArePieces new news → piece_texts new news ≡ piece_texts bs ts ++ with_comma name ∷ [] → AreNames names i bs ts
    → AreNames names (i + 1) new news
names_more names i name bs new ts news inside is all made h = record {
  pieces = all;
  texts = made ∙ ap₂ (λ xs x. xs ++ x ∷ []) h.texts (ap with_comma is) ∙ sym (map_more with_comma names i [] inside);
}
