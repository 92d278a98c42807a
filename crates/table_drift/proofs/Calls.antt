-- What the callees leave and tell where this crate calls them: each is lent what it asks for, so none is refused.
-- Assumes nothing.
use mathlib.Core.Path.{◌≡◌, ap, ◌∙◌}
use mathlib.Core.List.{List}
use Prim.Native.Nat.{ℕ}
use lib.ListN.{length}
use Rattle.std.specs.Prelude.{Result, Ok}
use Rattle.params.specs.declared.Params.{Params}
use Rattle.params.specs.declared.refusal.Refusal.{Refusal}
use Rattle.params.specs.Ranges.{params_number}
use Rattle.params.specs.Refusal.{answer, given}
use Rattle.params.specs.Sizes.{size}
use Rattle.params.proofs.Answers.{when_done}
use Rattle.tlwe.specs.declared.Level.TheVariants.{Zero}
use Rattle.tlwe.specs.Key.{keyed_number}
use Rattle.tlwe.proofs.Refusals.{keyed_done}
use Rattle.blind_rotation.proofs.Steps.{pair}
use Rattle.ring.specs.Pair.{Pair}
use Rattle.tables.specs.Table.{table_pair, looked_up}
use Rattle.tables.specs.Refusals.{lookup_number, table_out, lookup_out}
use Rattle.tables.specs.Private.{Fitting}
use Rattle.tables.proofs.Checks.{table_done, lookup_done}
use Rattle.drift.specs.PrivateWords.{rounding_word}
use Rattle.drift.specs.PrivateShort.{place_of}
use Rattle.turns.specs.declared.Rounded.{Rounded}
use Rattle.turns.specs.Front.{front_place, front_rounding}
use Rattle.turns.proofs.Given.{value_is}
use Rattle.turns.proofs.Words.{place_told, rounding_told}
use Rattle.table_drift.specs.Private.{LookupDriftGood}

-- the table's vector
pub vector_put : (p : Params) (m : ℕ) (f oa ob : List ℕ) → Fitting p m (length f) → length oa ≡ size p → length ob ≡ size p → {b : List ℕ} → b ≡ (table_out p m f (pair oa ob)).b → b ≡ (table_pair p m f).b
vector_put p m f oa ob t la lb e = e ∙ ap (λ (x : Pair). x.b) (when_done _ _ _ (table_done p m _ _ _ t la lb))

module _ (p : Params) (z : params_number p ≡ 0) (m : ℕ) (f : List ℕ) (results : ℕ) (ksk bsk key c o d : List ℕ) (g : LookupDriftGood p m (length f) results (length ksk) (length bsk) key (length c) (length o) (length d)) where
  -- the lookup
  pub looked : lookup_number p m (length f) (length c) (length ksk) (length bsk) (length o) ≡ 0
  looked = lookup_done p m _ _ _ _ _ (record { table = record { good = z; words = g.words; fits = g.fits }; source = g.source; switching = g.switching; bootstrapping = g.bootstrapping; result = g.result })

  pub lookup_put : {out : List ℕ} → out ≡ lookup_out p m f c ksk bsk o → out ≡ looked_up p m f ksk bsk c
  lookup_put e = e ∙ when_done _ _ _ looked

  -- what is asked of the key
  pub keyed : keyed_number p Zero (length c) key ≡ 0
  keyed = keyed_done p Zero (length c) key z g.source g.long g.bits

  -- so the turns tell their place, and what rounding brings in
  pub front_told : {r : Result Rounded Refusal} {x : Rounded}
      → r ≡ given (answer (keyed_number p Zero (length c) key)) (record { place = front_place p key c; rounding = record { 0 = front_rounding p key c } }) → r ≡ Ok x
      → (x.place ≡ place_of p key c) × (x.rounding.0 ≡ rounding_word p key c)
  front_told e o =
      let q = value_is _ _ e keyed o in
      (ap (λ (r : Rounded). r.place) q ∙ place_told p key c, ap (λ (r : Rounded). r.rounding.0) q ∙ rounding_told p key c)
