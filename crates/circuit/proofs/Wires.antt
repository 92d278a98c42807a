-- The wires' bits, gate after gate: how many there are, that a gate changes none before it, and the invariant of the loop that writes them,
-- `wires_to bs (take n w) g ++ drop (n + g) w`. Inductions on the number of gates.
-- Assumes nothing.
use mathlib.Core.Path.{◌≡◌, refl, sym, ap, ◌∙◌}
use mathlib.Core.List.{List, [], ◌∷◌, ◌++◌}
use Prim.Native.Nat.{ℕ, zero, suc, ◌+◌, ◌≤◌, ◌<◌}
use native.Mathlib.Nat.{add-zero, add-suc, le_antisymm}
use native.Mathlib.Numerals.{add-one}
use native.Mathlib.Omega.{arith}
use lib.ListN.{length, take, drop, set, length-append, length-drop, take-append-drop, get_or-append}
use lib.Seq.{length-take-le, take_at, drop-cons, set_at, append_snoc, get_or_at}
use Rattle.ring.specs.Word.{at}
use Rattle.ring.specs.Sums.{sum_to, tab}
use Rattle.ring.proofs.Tab.{length-tab}
use Rattle.circuit.specs.Form.{inputs, gates, wires}
use Rattle.circuit.specs.Plain.{gate_bit, wires_to, wires_of, input_bits}
use Rattle.ring.specs.Bit.{truth, bit_number}

pub length_wires : (bs start : List ℕ) (g : ℕ) → length (wires_to bs start g) ≡ length start + g
unfolding wires_to
length_wires bs start zero = sym (add-zero (length start))
length_wires bs start (suc g) =
    let p = wires_to bs start g in
    let e = length-append p (gate_bit bs p g ∷ []) in
    let i = length_wires bs start g in
    omega arith

pub wires_more : (bs start : List ℕ) (g : ℕ) → wires_to bs start (g + 1) ≡ wires_to bs start g ++ (gate_bit bs (wires_to bs start g) g ∷ [])
unfolding wires_to
wires_more bs start g = rw (add-one g)

module _ (bs w : List ℕ) (n : ℕ) (h : n ≤ length w) where
  pub length_run : (g : ℕ) → length (wires_to bs (take n w) g) ≡ n + g
  length_run g = length_wires bs (take n w) g ∙ ap (λ (k : ℕ). k + g) (length-take-le n w h)

  pub run_none : w ≡ wires_to bs (take n w) 0 ++ drop (n + 0) w
  unfolding wires_to
  run_none = rw (add-zero n) (sym (take-append-drop n w))

  module _ (g : ℕ) {bits : List ℕ} (inv : bits ≡ wires_to bs (take n w) g ++ drop (n + g) w) where
    -- what a gate reads is what the definition has
    pub run_front : take (n + g) bits ≡ wires_to bs (take n w) g
    run_front = ap (take (n + g)) inv ∙ take_at (wires_to bs (take n w) g) (drop (n + g) w) (n + g) (length_run g)

    pub run_length : n + g ≤ length w → length bits ≡ length w
    run_length l =
        let e = ap length inv ∙ length-append (wires_to bs (take n w) g) (drop (n + g) w) in
        let f = length_run g in
        let d = length-drop (n + g) w in
        omega arith

    pub run_more : (v : ℕ) → n + g < length w → v ≡ gate_bit bs (take (n + g) bits) g → set bits (n + g) v ≡ wires_to bs (take n w) (g + 1) ++ drop (n + (g + 1)) w
    run_more v l e =
        let p = wires_to bs (take n w) g in
        let ev : v ≡ gate_bit bs p g = e ∙ ap (λ (b : List ℕ). gate_bit bs b g) run_front in
        let s : suc (n + g) ≡ n + (g + 1) = omega arith in
        ap (λ (b : List ℕ). set b (n + g) v) (inv ∙ ap (λ (b : List ℕ). p ++ b) (drop-cons w (n + g) 0 l))
        ∙ set_at p (at w (n + g)) (drop (suc (n + g)) w) v (n + g) (length_run g)
        ∙ sym (append_snoc p v (drop (suc (n + g)) w))
        ∙ ap (λ (k : ℕ). (p ++ (v ∷ [])) ++ drop k w) s
        ∙ ap (λ (b : List ℕ). b ++ drop (n + (g + 1)) w) (ap (λ (x : ℕ). p ++ (x ∷ [])) ev ∙ sym (wires_more bs (take n w) g))

  -- the loop's end
  pub run_end : (g m : ℕ) {bits : List ℕ} → g ≤ m → m ≤ g → bits ≡ wires_to bs (take n w) g ++ drop (n + g) w → bits ≡ wires_to bs (take n w) m ++ drop (n + m) w
  run_end g m a b inv = inv ∙ rw (le_antisymm a b)

-- ---- a bit, once there, stays

pub wires_kept : (bs start : List ℕ) (g d w : ℕ) → w < length start + g → at (wires_to bs start (g + d)) w ≡ at (wires_to bs start g) w
unfolding wires_to
wires_kept bs start g zero w h = rw (add-zero g)
wires_kept bs start g (suc d) w h =
    let p = wires_to bs start (g + d) in
    let l = length_wires bs start (g + d) in
    rw (add-suc g d) (get_or-append p (gate_bit bs p (g + d) ∷ []) 0 w (omega arith) ∙ wires_kept bs start g d w h)

-- gate g's bit, seen after d more gates
pub wires_own : (bs start : List ℕ) (g d : ℕ) → at (wires_to bs start (g + 1 + d)) (length start + g) ≡ gate_bit bs (wires_to bs start g) g
wires_own bs start g d =
    let p = wires_to bs start g in
    wires_kept bs start (g + 1) d (length start + g) (omega arith)
    ∙ ap (λ (b : List ℕ). at b (length start + g)) (wires_more bs start g)
    ∙ get_or_at p (gate_bit bs p g) [] 0 (length start + g) (length_wires bs start g)

-- ---- the whole run: the inputs' bits written over w, then the gates'

pub run_bits : (bs ins w bits bits' : List ℕ) → length ins ≡ inputs bs → bits ≡ tab (length ins) (λ i. bit_number (truth (at ins i))) ++ drop (length ins) w → bits' ≡ wires_to bs (take (inputs bs) bits) (gates bs) ++ drop (wires bs) bits → take (wires bs) bits' ≡ wires_of bs ins
run_bits bs ins w bits bits' l e d =
    let n = inputs bs in
    let f : ℕ → ℕ = λ i. bit_number (truth (at ins i)) in
    let t : take n bits ≡ input_bits bs ins = ap (take n) (e ∙ ap (λ (k : ℕ). tab k f ++ drop k w) l) ∙ take_at (tab n f) (drop n w) n (length-tab n f) in
    ap (take (wires bs)) (d ∙ ap (λ (s : List ℕ). wires_to bs s (gates bs) ++ drop (wires bs) bits) t)
    ∙ take_at (wires_of bs ins) (drop (wires bs) bits) (wires bs) (length_wires bs (input_bits bs ins) (gates bs) ∙ ap (λ (k : ℕ). k + gates bs) (length-tab n f))

-- ---- sums

pub total_none : (f : ℕ → ℕ) → 0 ≡ sum_to 0 f
unfolding sum_to
total_none f = refl

pub total_more : (f : ℕ → ℕ) (g : ℕ) {s t : ℕ} → s ≡ sum_to g f → t ≡ f g → s + t ≡ sum_to (g + 1) f
unfolding sum_to
total_more f g e d = rw (add-one g, e, d)
