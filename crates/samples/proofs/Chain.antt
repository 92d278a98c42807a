-- What the callees leave, one after the other, makes a sample: each link's arguments are good, so each call does its work.
-- Assumes nothing.
use mathlib.Core.Path.{◌≡◌, ap, ap₂, ◌∙◌}
use mathlib.Core.List.{List, [], ◌∷◌}
use Prim.Native.Nat.{ℕ, zero, suc, ◌+◌, ◌≤◌}
use native.Mathlib.Omega.{arith}
use lib.ListN.{length, take, replicate, length-append}
use Rattle.ring.specs.Word.{at}
use Rattle.ring.specs.Sums.{tab}
use Rattle.ring.specs.Poly.{plus}
use Rattle.ring.specs.Turn.{rotated}
use Rattle.ring.specs.Phase.{extract}
use Rattle.ring.specs.Pair.{Pair}
use Rattle.ring.proofs.Tab.{length-tab}
use Rattle.params.specs.declared.Params.{Params}
use Rattle.params.specs.Ranges.{params_number, InRange}
use Rattle.params.specs.declared.Sizes.{Sizes}
use Rattle.params.specs.Sizes.{size, bootstrapping_words, sizes_in}
use Rattle.params.proofs.Answers.{when_done}
use Rattle.params.proofs.Ranges.{in_range, size_from}
use Rattle.trlwe.specs.Extract.{extract_out}
use Rattle.trlwe.proofs.Uses.{sample_extract_index_done}
use Rattle.trgsw.specs.External.{cmux_of}
use Rattle.blind_rotation.specs.Blind.{turned, blind_step, steps_to, start_of, blind_rotated}
use Rattle.blind_rotation.specs.Refusals.{blind_out}
use Rattle.blind_rotation.proofs.Checks.{blind_done}
use Rattle.blind_rotation.proofs.Steps.{lent}
use Rattle.words.proofs.Scratch.{scratch}
use Rattle.gate_sums.specs.declared.Kind.{Kind}
use Rattle.gate_sums.specs.Sum.{summed}
use Rattle.gate_sums.proofs.Sums.{summed-length}
use Rattle.samples.specs.Sample.{sample_from, rotated_sample}
use Rattle.key.specs.Testvec.{test_pair}

module _ (p : Params) (bsk src : List ℕ) (v : Pair) where
  -- the rotated pair has N words each
  steps_lengths : (i : ℕ) → let x = steps_to p bsk src (start_of p v (at src p.n)) i in (length x.a ≡ size p) × (length x.b ≡ size p)
  unfolding steps_to start_of turned rotated blind_step cmux_of plus
  steps_lengths zero = (length-tab (size p) _, length-tab (size p) _)
  steps_lengths (suc i) = (length-tab (size p) _, length-tab (size p) _)

  pub rotated_lengths : (length (blind_rotated p bsk src v).a ≡ size p) × (length (blind_rotated p bsk src v).b ≡ size p)
  unfolding blind_rotated
  rotated_lengths = steps_lengths p.n

  -- and the extracted sample N + 1
  pub from_length : length (sample_from p v bsk src) ≡ size p + 1
  unfolding sample_from extract
  from_length = length-append (tab (size p) _) (at (blind_rotated p bsk src v).b 0 ∷ []) ∙ ap (λ (n : ℕ). n + 1) (length-tab (size p) _)

-- a gate's
pub sample_length : (p : Params) (bsk src : List ℕ) → length (rotated_sample p bsk src) ≡ size p + 1
unfolding rotated_sample
sample_length p bsk src = from_length p bsk src (test_pair p)

-- a pair of N words each, extracted at 0 by a call
pub extracted_to : (p : Params) → params_number p ≡ 0 → (bsk src oo : List ℕ) (v : Pair) {ra rb out : List ℕ} → length oo ≡ size p + 1
    → ra ≡ (blind_rotated p bsk src v).a → rb ≡ (blind_rotated p bsk src v).b → out ≡ extract_out p ra rb 0 oo → out ≡ sample_from p v bsk src
unfolding sample_from
extracted_to p e bsk src oo v lo ea eb eo =
    let l = rotated_lengths p bsk src v in
    eo ∙ ap₂ (λ (x y : List ℕ). extract_out p x y 0 oo) ea eb
    ∙ sample_extract_index_done p (in_range p e) (blind_rotated p bsk src v).a (blind_rotated p bsk src v).b 0 oo l.0 l.1 lo (size_from p)

-- ---- links

module _ (p : Params) (e : params_number p ≡ 0) (bsk : List ℕ) (lk : length bsk ≡ bootstrapping_words p) where
  -- the rotation
  turned_to : (src : List ℕ) (o : Pair) → length src ≡ p.n + 1 → length o.a ≡ size p → length o.b ≡ size p
      → blind_out p src bsk o ≡ blind_rotated p bsk src (test_pair p)
  turned_to src o ls la lb = when_done _ _ _ (blind_done p (length src) (length bsk) (length o.a) (length o.b) (record { range = e; source = ls; key = lk; first = la; second = lb }))

  -- sum, rotation, extraction
  pub sample_made : (kind : Kind) (a b oa ob oo : List ℕ) {sum ra rb out : List ℕ} → length oa ≡ size p → length ob ≡ size p → length oo ≡ size p + 1
      → sum ≡ summed p kind a b
      → ra ≡ (blind_out p sum bsk (record { a = oa; b = ob })).a → rb ≡ (blind_out p sum bsk (record { a = oa; b = ob })).b
      → out ≡ extract_out p ra rb 0 oo → out ≡ rotated_sample p bsk (summed p kind a b)
  unfolding rotated_sample
  sample_made kind a b oa ob oo {sum} {ra} {rb} {out} la lb lo es ea eb eo =
      let s = summed p kind a b in
      let o : Pair = record { a = oa; b = ob } in
      let t = ap (λ (x : List ℕ). blind_out p x bsk o) es ∙ turned_to s o (summed-length p kind a b) la lb in
      extracted_to p e bsk s oo (test_pair p) lo (ea ∙ ap (λ (x : Pair). x.a) t) (eb ∙ ap (λ (x : Pair). x.b) t) eo

-- ---- scratch that a routine makes: its first words are lent

module _ (p : Params) (s : Sizes) (inv : InRange p × (s ≡ sizes_in p)) where
  pub sum_room : s.level0 ≤ 1101
  sum_room = rw inv.1 (let r = inv.0 in omega (arith, r))

  pub sum_lent : length {A = ℕ} (take s.level0 (replicate 1101 0)) ≡ p.n + 1
  sum_lent = scratch 1101 s.level0 sum_room ∙ ap (λ (s : Sizes). s.level0) inv.1

  pub all_lent : (length {A = ℕ} (take s.level0 (replicate 1101 0)) ≡ p.n + 1) × (length {A = ℕ} (take s.size (replicate 1024 0)) ≡ size p) × (length {A = ℕ} (take s.size (replicate 1024 0)) ≡ size p)
  all_lent = let l = lent p s inv in (sum_lent, l, l)
