-- The phase after key switching (01, Drift, 'Switching'): that of the sample before it and the drift of switching. The phase is linear, so it is
-- b's less that of each row used; a row carries its field's share of a mask and its error; and the fields make the mask, rounded.
-- Assumes nothing.
use mathlib.Core.Path.{◌≡◌, refl, sym, ap, ◌∙◌}
use mathlib.Core.Bool.{Bool, true, false, cond}
use mathlib.Core.List.{List, []}
use Prim.Native.Nat.{ℕ, ◌+◌, ◌-◌, ◌*◌, ◌%◌, ◌^◌}
use native.Mathlib.Nat.{mod-mod, add-mod, mod-add-mod, add_assoc}
use native.Mathlib.Omega.{arith}
use lib.Dec.{eqb}
use borrow.Author.Tests.{eqb-true}
use Rattle.params.specs.declared.Params.{Params}
use Rattle.params.specs.Ranges.{InRange}
use Rattle.params.specs.Sizes.{size}
use Rattle.ring.specs.Word.{Q, at, neg, field_of}
use Rattle.ring.specs.Sums.{sum_to}
use Rattle.ring.specs.Poly.{total}
use Rattle.ring.specs.Phase.{inner, phase_of, trivial}
use Rattle.ring.proofs.Words.{mul-mod_l, neg-mod, neg-plus, glue}
use Rattle.ring.proofs.SumLaws.{sum_mod, sum_add, sum_mul}
use Rattle.tlwe.proofs.Phases.{phase_sub}
use Rattle.key.specs.Switching.{row_part, carried, switching_row_error}
use Rattle.switching.specs.Switched.{rounding, rounded, mask_field, used_row, mask_rows, switched}
use Rattle.switching.specs.Drift.{dropped, used, used_errors, rounded_by, switching_drift}
use Rattle.switching.proofs.Fields.{fields_whole}
use Rattle.switching.proofs.Sums.{phase_empty, phase_trivial, phase_total}

-- the phase of row (i, j, k) under the level-0 key s
abbrev row_phase : Params → List ℕ → List ℕ → ℕ → ℕ → ℕ → ℕ
row_phase p s key i j k = phase_of p.n s (row_part p key i j k)

-- ---- what a row carries, and its error

-- of the row that a field uses
used_phase : (p : Params) (s key : List ℕ) (i j k : ℕ) → phase_of p.n s (used_row p key i j k) ≡ used k (row_phase p s key i j k)
unfolding used_row used
used_phase p s key i j k = go (eqb k 0)
  where
    go : (b : Bool) → phase_of p.n s (cond b [] (row_part p key i j k)) ≡ cond b 0 (row_phase p s key i j k)
    go true = phase_empty p.n s
    go false = refl

-- one field: the phase of its row is the row's error and what the row should carry
field_carries : (k R C : ℕ) → (k ≡ 0 → C ≡ 0) → used k R % Q ≡ (used k ((R + neg C) % Q) + C) % Q
unfolding used neg Q
field_carries k R C h = go (eqb k 0) refl
  where
    go : (b : Bool) → eqb k 0 ≡ b → cond b 0 R % Q ≡ (cond b 0 ((R + neg C) % Q) + C) % Q
    go true t = let c = h (eqb-true k 0 t) in omega arith
    go false t = omega arith

carries_none : (p : Params) (z : List ℕ) (i j k : ℕ) → k ≡ 0 → carried p z i j k ≡ 0
unfolding carried Q
carries_none p z i j k e = ap (λ (k : ℕ). k * at z i * 2 ^ (32 - (j + 1) * p.basebit) % 2 ^ 32) e ∙ (let q : 0 * at z i * 2 ^ (32 - (j + 1) * p.basebit) % 2 ^ 32 ≡ 0 = omega arith in q)

-- the fields of a mask: the mask, what it was rounded by added
mask_is : (p : Params) → InRange p → (a : ℕ)
    → sum_to p.t (λ j. field_of (rounded p a) p.basebit j * 2 ^ (32 - (j + 1) * p.basebit)) % Q ≡ (a + (rounding p + neg (dropped p a))) % Q
unfolding rounded neg Q
mask_is p r a = let w = fields_whole p r a in omega arith

-- ---- put together

gather : (S U C X B : ℕ) → S ≡ U + C → C % Q ≡ (X + B) % Q → S % Q ≡ (X + (U + B)) % Q
unfolding Q
gather S U C X B e c = omega arith

settle : (b T P S I D : ℕ) → T ≡ b % Q → P % Q ≡ S % Q → S ≡ I + D → (T + neg P) % Q ≡ ((b + neg I) % Q + neg D % Q) % Q
settle b T P S I D et ep es =
    ap (λ (n : ℕ). (n + neg P) % Q) et ∙ mod-add-mod b Q (neg P)
    ∙ glue b (neg P) (neg I + neg D) (ap (λ (n : ℕ). n % Q) (sym (neg-mod P) ∙ ap neg ep ∙ neg-mod S ∙ ap neg es) ∙ neg-plus I D)
    ∙ ap (λ (n : ℕ). n % Q) (sym (add_assoc b (neg I) (neg D))) ∙ add-mod (b + neg I) (neg D) Q

module _ (p : Params) (r : InRange p) (z src : List ℕ) where
  -- what the rows of mask i should carry, all together
  carried_sum : (i : ℕ) → sum_to p.t (λ j. carried p z i j (mask_field p src i j)) % Q ≡ (at src i * at z i + rounded_by p z src i) % Q
  unfolding carried mask_field rounded_by
  carried_sum i =
      sum_mod p.t _ (λ j. field_of y p.basebit j * 2 ^ (32 - (j + 1) * p.basebit) * at z i) (λ j l. one j)
      ∙ ap (λ (n : ℕ). n % Q) (sum_mul p.t (at z i) (λ j. field_of y p.basebit j * 2 ^ (32 - (j + 1) * p.basebit)))
      ∙ sym (mul-mod_l (sum_to p.t (λ j. field_of y p.basebit j * 2 ^ (32 - (j + 1) * p.basebit))) (at z i))
      ∙ ap (λ (n : ℕ). n * at z i % Q) (mask_is p r (at src i))
      ∙ mul-mod_l (at src i + c) (at z i)
      ∙ ap (λ (n : ℕ). n % Q) (let q : (at src i + c) * at z i ≡ at src i * at z i + at z i * c = omega arith in q)
    where
      y : ℕ
      y = rounded p (at src i)

      c : ℕ
      c = rounding p + neg (dropped p (at src i))

      turn : (f v w : ℕ) → f * v * w ≡ f * w * v
      turn f v w = omega arith

      one : (j : ℕ) → field_of y p.basebit j * at z i * 2 ^ (32 - (j + 1) * p.basebit) % Q % Q ≡ field_of y p.basebit j * 2 ^ (32 - (j + 1) * p.basebit) * at z i % Q
      one j = mod-mod (field_of y p.basebit j * at z i * 2 ^ (32 - (j + 1) * p.basebit)) Q ∙ ap (λ (n : ℕ). n % Q) (turn (field_of y p.basebit j) (at z i) (2 ^ (32 - (j + 1) * p.basebit)))

  -- the sample's own phase
  before : phase_of (size p) z src ≡ (at src (size p) + neg (sum_to (size p) (λ i. at src i * at z i))) % Q
  unfolding phase_of inner
  before = refl

  module _ (s key : List ℕ) where
    -- one mask: the phase of the rows it uses is the mask under the key, the rows' errors and what it was rounded by
    mask_phase : (i : ℕ) → phase_of p.n s (mask_rows p key src i) % Q ≡ (at src i * at z i + (used_errors p s z key src i + rounded_by p z src i)) % Q
    unfolding mask_rows used_errors switching_row_error
    mask_phase i =
        phase_total p.n s p.t (λ j. used_row p key i j (mask_field p src i j))
        ∙ sum_mod p.t _ (λ j. used (mask_field p src i j) (switching_row_error p s z key i j (mask_field p src i j)) + carried p z i j (mask_field p src i j)) (λ j l.
        ap (λ (n : ℕ). n % Q) (used_phase p s key i j (mask_field p src i j))
        ∙ field_carries (mask_field p src i j) (row_phase p s key i j (mask_field p src i j)) (carried p z i j (mask_field p src i j)) (carries_none p z i j (mask_field p src i j)))
        ∙ gather _ _ _ _ _ (sum_add p.t (λ j. used (mask_field p src i j) (switching_row_error p s z key i j (mask_field p src i j))) (λ j. carried p z i j (mask_field p src i j))) (carried_sum i)

    -- the phase after switching is the phase before it and the drift of switching (01, Drift, 'Switching')
    pub switching_phase : phase_of p.n s (switched p key src) ≡ (phase_of (size p) z src + switching_drift p s z key src) % Q
    unfolding switched switching_drift
    switching_phase =
        phase_sub p.n s (trivial p.n (at src (size p))) (total (p.n + 1) (size p) (mask_rows p key src))
        ∙ settle (at src (size p)) _ _ (sum_to (size p) (λ i. at src i * at z i + (used_errors p s z key src i + rounded_by p z src i))) _ _ (phase_trivial p.n s (at src (size p)))
        (phase_total p.n s (size p) (mask_rows p key src) ∙ sum_mod (size p) _ _ (λ i l. mask_phase i))
        (sum_add (size p) (λ i. at src i * at z i) (λ i. used_errors p s z key src i + rounded_by p z src i))
        ∙ ap (λ (n : ℕ). (n + neg (sum_to (size p) (λ i. used_errors p s z key src i + rounded_by p z src i)) % Q) % Q) (sym before)
