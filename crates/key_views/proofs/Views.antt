-- A call over a made view is the plain call over the slice that the view was made of: the same number and the same words, refusals too. For a refused view refers to the empty part, which is no
-- key's length, and every plain routine gives one number wherever a key's length is wrong (`Refuses`).
-- Assumes nothing.
use mathlib.Core.Bool.{Bool, true, false}
use mathlib.Core.List.{List, []}
use mathlib.Core.Path.{◌≡◌, refl, sym, ap, ◌∙◌}
use Prim.Native.Nat.{ℕ, ◌+◌, ◌-◌, ◌≤◌}
use native.Mathlib.Decide.{ℕ_discrete}
use native.Mathlib.Nat.{mul-le-mul}
use native.Mathlib.Omega.{arith}
use borrow.Author.Tests.{eq-eqb, ne_eqb}
use lib.ListN.{length}
use Rattle.ring.specs.Pair.{Pair}
use Rattle.params.specs.declared.Params.{Params}
use Rattle.params.specs.Ranges.{params_number}
use Rattle.params.specs.Refusal.{check, if_done}
use Rattle.params.specs.Sizes.{size, switching_words, bootstrapping_words}
use Rattle.params.proofs.Ranges.{in_range, size_from, base_two}
use Rattle.key.specs.Switching.{row_part, lookup_number}
use Rattle.key.specs.Bits.{bit_rows, bit_rows_number}
use Rattle.switching.specs.Switched.{switch_number, switched}
use Rattle.blind_rotation.specs.Refusals.{blind_number, blind_out}
use Rattle.blind_rotation.specs.Blind.{blind_rotated}
use Rattle.gate_sums.specs.declared.Kind.{Kind}
use Rattle.gates.specs.Refusals.{gate_number}
use Rattle.gates.specs.Gate.{gated, gate_out}
use Rattle.key_views.specs.View.{view_number, viewed}
use Rattle.key.specs.Testvec.{test_pair}

-- a check for 2 before a refusal with 2
two : (b : Bool) → check b 2 2 ≡ 2
two true = refl
two false = refl

-- how a routine's number depends on a key of w words: 1 with parameters out of range, 2 with any other length
record Refuses (p : Params) (w : ℕ) (number : List ℕ → ℕ) : Type 0 where
  pub some : params_number p ≡ 0 → w ≡ 0 → ⊥
  pub out : (l : List ℕ) → (params_number p ≡ 0 → ⊥) → number l ≡ 1
  pub wrong : (l : List ℕ) → params_number p ≡ 0 → (length l ≡ w → ⊥) → number l ≡ 2

module _ {p : Params} {w : ℕ} {number : List ℕ → ℕ} (r : Refuses p w number) where
  -- a function of the key that is x where the number is 1, and y where it is 2, makes the same of a made view and of the slice
  over : {X : Type 0} (F : List ℕ → X) (x y : X) → ((l : List ℕ) → number l ≡ 1 → F l ≡ x) → ((l : List ℕ) → number l ≡ 2 → F l ≡ y) → (key : List ℕ) → F (viewed p w key) ≡ F key
  unfolding viewed view_number
  over F x y f g key = go (ℕ_discrete (params_number p) 0) (ℕ_discrete (length key) w)
    where
      go : Dec (params_number p ≡ 0) → Dec (length key ≡ w) → F (viewed p w key) ≡ F key
      go (no n) d = f (viewed p w key) (r.out (viewed p w key) n) ∙ sym (f key (r.out key n))
      go (yes e) (yes q) = ap F (rw (eq-eqb (params_number p) 0 e, eq-eqb (length key) w q))
      go (yes e) (no n) = ap F (rw (eq-eqb (params_number p) 0 e, ne_eqb (length key) w n)) ∙ g [] (r.wrong [] e (λ z. r.some e (sym z))) ∙ sym (g key (r.wrong key e n))

  -- so do the number itself, and what the routine hands back or leaves in a lent slice
  numbers : (key : List ℕ) → number (viewed p w key) ≡ number key
  numbers = over number 1 2 (λ l e. e) (λ l e. e)

  contents : {X : Type 0} (new : List ℕ → X) (old : X) (key : List ℕ) → if_done (number (viewed p w key)) (new (viewed p w key)) old ≡ if_done (number key) (new key) old
  contents new old = over (λ l. if_done (number l) (new l) old) old old (λ l. ap (λ (m : ℕ). if_done m (new l) old)) (λ l. ap (λ (m : ℕ). if_done m (new l) old))

module _ (p : Params) where
  -- a key has a word at least
  some_switching : params_number p ≡ 0 → switching_words p ≡ 0 → ⊥
  some_switching e z = let r = in_range p e in omega (arith, z, mul-le-mul (mul-le-mul (mul-le-mul (size_from p) r.t_from) (digits (base_two p r))) (one p.n))
    where
      digits : {b : ℕ} → 2 ≤ b → 1 ≤ b - 1
      digits h = omega arith

      one : (n : ℕ) → 1 ≤ n + 1
      one n = omega arith

  some_bootstrapping : params_number p ≡ 0 → bootstrapping_words p ≡ 0 → ⊥
  some_bootstrapping e z = let r = in_range p e in omega (arith, z, mul-le-mul r.n_from (mul-le-mul (twice p.l r.l_from) (twice (size p) (size_from p))))
    where
      twice : (n : ℕ) → 1 ≤ n → 1 ≤ n + n
      twice n h = omega arith

  abbrev switching_view : List ℕ → List ℕ
  switching_view key = viewed p (switching_words p) key

  abbrev bootstrapping_view : List ℕ → List ℕ
  bootstrapping_view key = viewed p (bootstrapping_words p) key

  -- ---- a row of the switching key
  module _ (i j k : ℕ) where
    row_refuses : Refuses p (switching_words p) (λ l. lookup_number p (length l) i j k)
    unfolding lookup_number
    row_refuses = record { some = some_switching; out = λ l n. simp (ne_eqb (params_number p) 0 n); wrong = λ l e n. simp (eq-eqb (params_number p) 0 e, ne_eqb (length l) (switching_words p) n) }

    pub row_number : (key : List ℕ) → lookup_number p (length (switching_view key)) i j k ≡ lookup_number p (length key) i j k
    row_number = numbers row_refuses

    pub row_same : (key : List ℕ) → if_done (lookup_number p (length (switching_view key)) i j k) (row_part p (switching_view key) i j k) [] ≡ if_done (lookup_number p (length key) i j k) (row_part p key i j k) []
    row_same = contents row_refuses (λ l. row_part p l i j k) []

  -- ---- a bit's rows of the bootstrapping key
  module _ (i : ℕ) where
    bits_refuse : Refuses p (bootstrapping_words p) (λ l. bit_rows_number p (length l) i)
    unfolding bit_rows_number
    bits_refuse = record { some = some_bootstrapping; out = λ l n. simp (ne_eqb (params_number p) 0 n); wrong = λ l e n. simp (eq-eqb (params_number p) 0 e, ne_eqb (length l) (bootstrapping_words p) n) }

    pub bits_number : (key : List ℕ) → bit_rows_number p (length (bootstrapping_view key)) i ≡ bit_rows_number p (length key) i
    bits_number = numbers bits_refuse

    pub bits_same : (key : List ℕ) → if_done (bit_rows_number p (length (bootstrapping_view key)) i) (bit_rows p (bootstrapping_view key) i) [] ≡ if_done (bit_rows_number p (length key) i) (bit_rows p key i) []
    bits_same = contents bits_refuse (λ l. bit_rows p l i) []

  -- ---- switching
  module _ (src o : List ℕ) where
    abbrev switch_of : List ℕ → ℕ
    switch_of l = switch_number p (length src) (length l) (length o)

    switch_refuses : Refuses p (switching_words p) switch_of
    unfolding switch_number
    switch_refuses = record { some = some_switching; out = λ l n. simp (ne_eqb (params_number p) 0 n); wrong = λ l e n. simp (eq-eqb (params_number p) 0 e, ne_eqb (length l) (switching_words p) n, two) }

    pub switch_number_lem : (key : List ℕ) → switch_of (switching_view key) ≡ switch_of key
    switch_number_lem = numbers switch_refuses

    pub switch_same : (key : List ℕ) → if_done (switch_of (switching_view key)) (switched p (switching_view key) src) o ≡ if_done (switch_of key) (switched p key src) o
    switch_same = contents switch_refuses (λ l. switched p l src) o

  -- ---- a rotation
  module _ (src : List ℕ) (o : Pair) where
    abbrev blind_of : List ℕ → ℕ
    blind_of l = blind_number p (length src) (length l) (length o.a) (length o.b)

    rotate_refuses : Refuses p (bootstrapping_words p) blind_of
    unfolding blind_number
    rotate_refuses = record { some = some_bootstrapping; out = λ l n. simp (ne_eqb (params_number p) 0 n); wrong = λ l e n. simp (eq-eqb (params_number p) 0 e, ne_eqb (length l) (bootstrapping_words p) n, two) }

    pub rotate_number : (key : List ℕ) → blind_of (bootstrapping_view key) ≡ blind_of key
    rotate_number = numbers rotate_refuses

    pub rotate_same : (key : List ℕ) → blind_out p src (bootstrapping_view key) o ≡ blind_out p src key o
    rotate_same = contents rotate_refuses (λ l. blind_rotated p l src (test_pair p)) o

  -- ---- a gate, over both views
  module _ (kind : Kind) (a b o : List ℕ) where
    abbrev gate_of : List ℕ → List ℕ → ℕ
    gate_of ksk bsk = gate_number p (length a) (length b) (length ksk) (length bsk) (length o)

    gate_refuses_ksk : (bsk : List ℕ) → Refuses p (switching_words p) (λ l. gate_of l bsk)
    unfolding gate_number
    gate_refuses_ksk bsk = record { some = some_switching; out = λ l n. simp (ne_eqb (params_number p) 0 n); wrong = λ l e n. simp (eq-eqb (params_number p) 0 e, ne_eqb (length l) (switching_words p) n, two) }

    gate_refuses_bsk : (ksk : List ℕ) → Refuses p (bootstrapping_words p) (gate_of ksk)
    unfolding gate_number
    gate_refuses_bsk ksk = record { some = some_bootstrapping; out = λ l n. simp (ne_eqb (params_number p) 0 n); wrong = λ l e n. simp (eq-eqb (params_number p) 0 e, ne_eqb (length l) (bootstrapping_words p) n, two) }

    pub gate_number_lem : (ksk bsk : List ℕ) → gate_of (switching_view ksk) (bootstrapping_view bsk) ≡ gate_of ksk bsk
    gate_number_lem ksk bsk = numbers (gate_refuses_ksk (bootstrapping_view bsk)) ksk ∙ numbers (gate_refuses_bsk ksk) bsk

    pub gate_same : (ksk bsk : List ℕ) → gate_out p kind a b (switching_view ksk) (bootstrapping_view bsk) o ≡ gate_out p kind a b ksk bsk o
    gate_same ksk bsk = contents (gate_refuses_ksk (bootstrapping_view bsk)) (λ l. gated p kind l (bootstrapping_view bsk) a b) o ksk ∙ contents (gate_refuses_bsk ksk) (λ l. gated p kind ksk l a b) o bsk
