-- Counts of fetches: each fetch is one, and the fetches of one part of a call and of the next add up.
use Rattle.std.proofs.Common.{◌≡◌, ◌≤◌, ◌+◌, ℕ, suc, Option, Some, None, sym, subst, arith}
use Rattle.std.specs.Option.{option_map}
use Rattle.fca_io.specs.Faults.{RoseAtMost, one_more}

pub fetched_none : (a : Option ℕ) (most : ℕ) → RoseAtMost a a most
fetched_none None most = tt
fetched_none (Some a) most = omega arith

pub fetched_one : (a b : Option ℕ) → b ≡ option_map one_more a → RoseAtMost a b 1
fetched_one None b one = tt
fetched_one (Some a) b one = subst (λ x. RoseAtMost (Some a) x 1) (sym one) (omega arith)

pub fetched_within : (a b : Option ℕ) (m n : ℕ) → m ≤ n → RoseAtMost a b m → RoseAtMost a b n
fetched_within None b m n more few = tt
fetched_within (Some a) None m n more few = few
fetched_within (Some a) (Some b) m n more few = omega arith

pub fetched_then : (a b c : Option ℕ) (m n : ℕ) → RoseAtMost a b m → RoseAtMost b c n → RoseAtMost a c (m + n)
fetched_then None b c m n first next = tt
fetched_then (Some a) None c m n first next = absurd first
fetched_then (Some a) (Some b) None m n first next = absurd next
fetched_then (Some a) (Some b) (Some c) m n first next = omega arith

-- one, and then at most n
pub fetched_next : (a b c : Option ℕ) (n : ℕ) → b ≡ option_map one_more a → RoseAtMost b c n → RoseAtMost a c (suc n)
fetched_next a b c n one next =
    fetched_within a c (1 + n) (suc n) (omega arith) (fetched_then a b c 1 n (fetched_one a b one) next)
