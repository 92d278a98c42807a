-- What the callees leave, one after the other, makes a lookup: each link's arguments are good, so each call does its work.
-- Assumes nothing.
use mathlib.Core.Path.{◌≡◌, ap, ap₂, ◌∙◌}
use mathlib.Core.List.{List}
use Prim.Native.Nat.{ℕ, ◌+◌}
use lib.ListN.{length}
use Rattle.ring.specs.Pair.{Pair}
use Rattle.ring.specs.Sums.{tab}
use Rattle.ring.proofs.Tab.{length-tab}
use Rattle.params.specs.declared.Params.{Params}
use Rattle.params.specs.Ranges.{params_number}
use Rattle.params.specs.Refusal.{if_done}
use Rattle.params.specs.Sizes.{size, switching_words, bootstrapping_words}
use Rattle.params.proofs.Answers.{when_done}
use Rattle.params.proofs.Ranges.{in_range, size_from}
use Rattle.trlwe.specs.Extract.{extract_number, extract_out}
use Rattle.trlwe.proofs.Checks.{extract_passes}
use Rattle.switching.specs.Switched.{switch_number, switched}
use Rattle.switching.proofs.Checks.{switch_done, switched-length}
use Rattle.blind_rotation.specs.Blind.{blind_rotated}
use Rattle.blind_rotation.specs.Refusals.{vector_number, vector_out}
use Rattle.blind_rotation.proofs.Checks.{vector_done}
use Rattle.blind_rotation.proofs.Steps.{pair}
use Rattle.samples.specs.Sample.{sample_from}
use Rattle.samples.proofs.Chain.{from_length, extracted_to}
use Rattle.gates.proofs.Chain.{switched_to}
use Rattle.tables.specs.Private.{LookupGood}
use Rattle.tables.specs.Table.{table_word, table_pair, looked_up}

-- the code's vector: its length is the size, its table's the modulus
pub vector_made : (p : Params) {m n l : ℕ} (f : List ℕ) {b : List ℕ} → n ≡ size p → l ≡ m → b ≡ tab n (table_word n l f) → b ≡ (table_pair p m f).b
vector_made p f en el e = e ∙ ap₂ (λ (n l : ℕ). tab n (table_word n l f)) en el

-- the lengths of a lookup that is not refused are right for each call in it
module _ (p : Params) {m lf lc lk ls lo : ℕ} (k : LookupGood p m lf lc lk ls lo) where
  pub lookup_turned : {lva lvb la lb : ℕ} → lva ≡ size p → lvb ≡ size p → la ≡ size p → lb ≡ size p → vector_number p lc lva lvb ls la lb ≡ 0
  lookup_turned v w a b =
      vector_done p _ _ _ _ _ _ (record { vector_a = v; vector_b = w; rotation = record { range = k.table.good; source = k.source; key = k.bootstrapping; first = a; second = b } })

  pub lookup_extracted : {la lb lr : ℕ} → la ≡ size p → lb ≡ size p → lr ≡ size p + 1 → extract_number p la lb 0 lr ≡ 0
  lookup_extracted a b r = extract_passes p _ _ 0 _ (in_range p k.table.good) a b r (size_from p)

  pub lookup_switched : {lr : ℕ} → lr ≡ size p + 1 → switch_number p lr lk lo ≡ 0
  lookup_switched r = switch_done p _ lk lo k.table.good r k.switching k.result

module _ (p : Params) (e : params_number p ≡ 0) (m : ℕ) (f c bsk : List ℕ) (lc : length c ≡ p.n + 1) (ls : length bsk ≡ bootstrapping_words p) where
  -- the vector, its rotation, the extraction; the scratch held oa, ob
  pub sample_made : (oa ob oo : List ℕ) {va vb ra rb out : List ℕ} → length oa ≡ size p → length ob ≡ size p → length oo ≡ size p + 1
      → va ≡ (table_pair p m f).a → vb ≡ (table_pair p m f).b
      → ra ≡ (vector_out p c (pair va vb) bsk (pair oa ob)).a → rb ≡ (vector_out p c (pair va vb) bsk (pair oa ob)).b
      → out ≡ extract_out p ra rb 0 oo → out ≡ sample_from p (table_pair p m f) bsk c
  sample_made oa ob oo {va} {vb} la lb lo ea eb era erb eo =
      let v = table_pair p m f in
      let t : vector_out p c (pair va vb) bsk (pair oa ob) ≡ blind_rotated p bsk c v = ap₂ (λ (x y : List ℕ). vector_out p c (pair x y) bsk (pair oa ob)) ea eb
      ∙ when_done _ _ _ (vector_done p _ _ _ _ _ _ (record { vector_a = length-tab (size p) _; vector_b = length-tab (size p) _; rotation = record { range = e; source = lc; key = ls; first = la; second = lb } })) in
      extracted_to p e bsk c oo v lo (era ∙ ap (λ (x : Pair). x.a) t) (erb ∙ ap (λ (x : Pair). x.b) t) eo

  -- and the switching
  pub lookup_made : (ksk o : List ℕ) {sample out : List ℕ} → length ksk ≡ switching_words p → length o ≡ p.n + 1 → sample ≡ sample_from p (table_pair p m f) bsk c
      → out ≡ if_done (switch_number p (length sample) (length ksk) (length o)) (switched p ksk sample) o → out ≡ looked_up p m f ksk bsk c
  unfolding looked_up
  lookup_made ksk o lk lo es eo = switched_to p e ksk bsk o lk lo (sample_from p (table_pair p m f) bsk c) (from_length p bsk c (table_pair p m f)) es eo

-- a lookup has n + 1 words
pub lookup_length : (p : Params) (m : ℕ) (f ksk bsk c : List ℕ) → length (looked_up p m f ksk bsk c) ≡ p.n + 1
unfolding looked_up
lookup_length p m f ksk bsk c = switched-length p ksk _
