-- The refusals taken apart and put together.
-- Assumes nothing.
use mathlib.Core.Path.{◌≡◌, refl, ap, ap₂, ◌∙◌}
use mathlib.Core.Bool.{true}
use Prim.Native.Nat.{ℕ, ◌≤◌}
use native.Mathlib.Omega.{arith}
use lib.ListN.{length, take, replicate}
use Rattle.params.specs.declared.Params.{Params}
use Rattle.params.specs.declared.Sizes.{Sizes}
use Rattle.params.specs.Ranges.{InRange}
use Rattle.params.specs.Sizes.{size, sizes_in}
use Rattle.params.proofs.Ranges.{in_range, size_to as most}
use Rattle.refusals.proofs.Table.{good, done}
use Rattle.words.proofs.Scratch.{scratch}
use Rattle.tables.specs.Table.{is_table}
use Rattle.tables.specs.Refusals.{vector_checks, table_number, lookup_checks, lookup_number}
use Rattle.tables.specs.Private.{Fitting, LookupGood}

module _ (p : Params) (m lf la lb : ℕ) where
  pub table_good : table_number p m lf la lb ≡ 0 → Fitting p m lf × (la ≡ size p) × (lb ≡ size p)
  unfolding table_number
  table_good e =
      let f = good p (vector_checks p m lf la lb) refl e in
      (record { good = f.0; words = f.1.0; fits = f.1.1.1.1.0 }, f.1.1.0, f.1.1.1.0)

  -- for callers: good arguments are not refused
  pub table_done : Fitting p m lf → la ≡ size p → lb ≡ size p → table_number p m lf la lb ≡ 0
  unfolding table_number
  table_done t ea eb = done p (vector_checks p m lf la lb) (t.good, (t.words, (ea, (eb, (t.fits, tt)))))

module _ (p : Params) (m lf lc lk ls lo : ℕ) where
  pub lookup_good : lookup_number p m lf lc lk ls lo ≡ 0 → LookupGood p m lf lc lk ls lo
  unfolding lookup_number
  lookup_good e =
      let f = good p (lookup_checks p m lf lc lk ls lo) refl e in
      let g = f.1.1 in
      record {
        table = record { good = f.0; words = f.1.0; fits = g.1.1.1.1.0 };
        source = g.0;
        switching = g.1.0;
        bootstrapping = g.1.1.0;
        result = g.1.1.1.0;
      }

  -- for callers: good arguments are not refused
  pub lookup_done : LookupGood p m lf lc lk ls lo → lookup_number p m lf lc lk ls lo ≡ 0
  unfolding lookup_number
  lookup_done g =
      let t = g.table in
      done p (lookup_checks p m lf lc lk ls lo) (t.good, (t.words, (g.source, (g.switching, (g.bootstrapping, (g.result, (t.fits, tt)))))))

-- ---- scratch

-- the words of a polynomial fit the scratch, and the part that is lent has them
module _ {q : Params} {s : Sizes} (i : InRange q × (s ≡ sizes_in q)) where
  pub size_to : s.size ≤ 1024
  size_to = let e = ap (λ (s : Sizes). s.size) i.1 in omega (arith, e, most q i.0)

  pub size_lent : {p : Params} → q ≡ p → length {A = ℕ} (take s.size (replicate 1024 0)) ≡ size p
  size_lent e = scratch 1024 _ size_to ∙ ap (λ (s : Sizes). s.size) i.1 ∙ ap size e

-- what `put_vector` asks, of slices that the checks passed
pub fitting_words : (p : Params) (m lf lb : ℕ) → Fitting p m lf → lb ≡ size p → (is_table lb lf ≡ true) × (lb ≤ 1024)
fitting_words p m lf lb t e = (ap₂ is_table e t.words ∙ t.fits, omega (arith, e, most p (in_range p t.good)))
