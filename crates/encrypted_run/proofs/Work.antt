-- The work of a circuit is the number of blind rotations that its encrypted run performs (02, 2026-03). Gate after gate the run's list grows by its way's sums, and a kind's
-- work counts these. That the list is the run's own, and no table beside it: cut by the work of the gates before, it has each gate's sums in their place, of whose
-- samples the gate's ciphertext is made; and two bootstrapping keys that rotate the listed sums alike give the same wires. Inductions on the number of gates.
-- Assumes nothing.
use mathlib.Core.Path.{◌≡◌, refl, sym, ap, ap₂, ◌∙◌}
use mathlib.Core.List.{List, [], ◌++◌, map, map-append, append_assoc, append-nil}
use Prim.Native.Nat.{ℕ, zero, suc, ◌+◌, ◌-◌, ◌<◌}
use native.Mathlib.Nat.{add-zero, add-suc}
use native.Mathlib.Omega.{arith}
use lib.ListN.{length, take, drop, length-append, length-map}
use lib.Seq.{take_at, drop_at}
use Rattle.ring.specs.Sums.{sum_to}
use Rattle.std.specs.Prelude.{Ok}
use Rattle.params.specs.declared.Params.{Params}
use Rattle.params.specs.Refusal.{Answer}
use Rattle.params.proofs.Answers.{given_done}
use Rattle.samples.specs.Sample.{rotated_sample}
use Rattle.kinds.specs.Kinds.{kind_of}
use Rattle.circuit.specs.Form.{answer_of, gates, kind_at, operand_at}
use Rattle.circuit.specs.Valid.{Valid}
use Rattle.circuit.specs.Plain.{work_of, work_answer}
use Rattle.circuit.proofs.Accept.{not_refused}
use Rattle.ways.specs.Ways.{way_of, made, ran}
use Rattle.ways.specs.Ciphers.{cipher_at}
use Rattle.ways.proofs.Work.{sums_counted, rotated_alike}
use Rattle.encrypted_run.specs.Private.{RunGood}
use Rattle.encrypted_run.specs.Run.{gate_cipher, ciphers_to, ciphers_of, output_ciphers, wires_after, outputs_after}
use Rattle.encrypted_run.specs.Rotations.{gate_rotated, rotated_to, rotated_of}
use Rattle.encrypted_run.proofs.Laws.{wires_written, outputs_written}

-- the work of the first g gates
abbrev pub work_to : List ℕ → ℕ → ℕ
work_to bs g = sum_to g (λ i. (kind_of (kind_at bs i)).work)

-- what a gate's ciphertext is made of: its sums, each rotated, and nothing else of the bootstrapping key
pub gate_made : (p : Params) (ksk bsk bs ws : List ℕ) (g : ℕ)
    → gate_cipher p ksk bsk bs ws g ≡ made p ksk (way_of (kind_at bs g)) (cipher_at p ws (operand_at bs g 0)) (map (rotated_sample p bsk) (gate_rotated p bs ws g))
unfolding gate_cipher ran gate_rotated
gate_made p ksk bsk bs ws g = refl

module _ (p : Params) (ksk bsk bs ins : List ℕ) where
  -- ---- how many

  gate_counted : (g : ℕ) → length (gate_rotated p bs (ciphers_to p ksk bsk bs ins g) g) ≡ (kind_of (kind_at bs g)).work
  unfolding gate_rotated
  gate_counted g = sums_counted p (kind_at bs g) _ _ _

  -- the first g gates
  pub counted : (g : ℕ) → length (rotated_to p ksk bsk bs ins g) ≡ work_to bs g
  unfolding rotated_to sum_to
  counted zero = refl
  counted (suc g) =
      length-append (rotated_to p ksk bsk bs ins g) (gate_rotated p bs (ciphers_to p ksk bsk bs ins g) g)
      ∙ ap₂ (λ (x y : ℕ). x + y) (counted g) (gate_counted g)

  -- the work of any bytes is the number of their run's rotations
  pub work_rotates : work_of bs ≡ length (rotated_of p ksk bsk bs ins)
  unfolding work_of
  work_rotates = sym (counted (gates bs))

  -- and `circuit::work` tells it of a valid circuit
  pub work_told : Valid bs → work_answer bs ≡ Ok (length (rotated_of p ksk bsk bs ins))
  work_told v = given_done (answer_of bs) (work_of bs) (ap (λ (a : Answer). a.number) (not_refused bs v)) ∙ ap Ok work_rotates

  -- ---- each in its place

  -- the part of a list that has gate g's sums
  abbrev piece_of : ℕ → List (List ℕ) → List (List ℕ)
  piece_of g sums = take (kind_of (kind_at bs g)).work (drop (work_to bs g) sums)

  -- what the d gates after the first n add
  later : ℕ → ℕ → List (List ℕ)
  later n zero = []
  later n (suc d) = later n d ++ gate_rotated p bs (ciphers_to p ksk bsk bs ins (n + d)) (n + d)

  goes_on : (n d : ℕ) → rotated_to p ksk bsk bs ins (n + d) ≡ rotated_to p ksk bsk bs ins n ++ later n d
  unfolding rotated_to later
  goes_on n zero = rw (add-zero n) (sym (append-nil (rotated_to p ksk bsk bs ins n)))
  goes_on n (suc d) =
      let more = gate_rotated p bs (ciphers_to p ksk bsk bs ins (n + d)) (n + d) in
      rw (add-suc n d) (ap (λ (x : List (List ℕ)). x ++ more) (goes_on n d) ∙ append_assoc (rotated_to p ksk bsk bs ins n) (later n d) more)

  -- behind those of the gates before it
  pub gate_piece : (g : ℕ) → g < gates bs → piece_of g (rotated_of p ksk bsk bs ins) ≡ gate_rotated p bs (ciphers_to p ksk bsk bs ins g) g
  unfolding rotated_to
  gate_piece g h =
      let before = rotated_to p ksk bsk bs ins g in
      let own = gate_rotated p bs (ciphers_to p ksk bsk bs ins g) g in
      let after = later (suc g) (gates bs - suc g) in
      let e : gates bs ≡ suc g + (gates bs - suc g) = omega arith in
      let whole : rotated_of p ksk bsk bs ins ≡ before ++ (own ++ after) = ap (rotated_to p ksk bsk bs ins) e ∙ goes_on (suc g) (gates bs - suc g) ∙ append_assoc before own after in
      ap (piece_of g) whole
      ∙ ap (take (kind_of (kind_at bs g)).work) (drop_at before (own ++ after) (work_to bs g) (counted g))
      ∙ take_at own after (kind_of (kind_at bs g)).work (gate_counted g)

  -- gate g's ciphertext is made of the samples of its part of the list
  pub listed_makes : (g : ℕ) → g < gates bs
      → gate_cipher p ksk bsk bs (ciphers_to p ksk bsk bs ins g) g
      ≡ made p ksk (way_of (kind_at bs g)) (cipher_at p (ciphers_to p ksk bsk bs ins g) (operand_at bs g 0)) (map (rotated_sample p bsk) (piece_of g (rotated_of p ksk bsk bs ins)))
  listed_makes g h =
      let ws = ciphers_to p ksk bsk bs ins g in
      gate_made p ksk bsk bs ws g
      ∙ ap (λ (sums : List (List ℕ)). made p ksk (way_of (kind_at bs g)) (cipher_at p ws (operand_at bs g 0)) (map (rotated_sample p bsk) sums)) (sym (gate_piece g h))

-- ---- no others

-- two functions that give the same on a list give the same on either part of it
split_left : {A B : Type 0} (f h : A → B) (xs ys : List A) → map f (xs ++ ys) ≡ map h (xs ++ ys) → map f xs ≡ map h xs
split_left f h xs ys e =
    sym (take_at (map f xs) (map f ys) (length xs) (length-map xs f))
    ∙ ap (take (length xs)) (sym (map-append f xs ys) ∙ e ∙ map-append h xs ys)
    ∙ take_at (map h xs) (map h ys) (length xs) (length-map xs h)

split_right : {A B : Type 0} (f h : A → B) (xs ys : List A) → map f (xs ++ ys) ≡ map h (xs ++ ys) → map f ys ≡ map h ys
split_right f h xs ys e =
    sym (drop_at (map f xs) (map f ys) (length xs) (length-map xs f))
    ∙ ap (drop (length xs)) (sym (map-append f xs ys) ∙ e ∙ map-append h xs ys)
    ∙ drop_at (map h xs) (map h ys) (length xs) (length-map xs h)

module _ (p : Params) (ksk bsk bsk' bs ins : List ℕ) where
  -- both keys give the same samples of the sums that the first g gates rotate
  abbrev SumsAlike : ℕ → Type 0
  SumsAlike g = map (rotated_sample p bsk) (rotated_to p ksk bsk bs ins g) ≡ map (rotated_sample p bsk') (rotated_to p ksk bsk bs ins g)

  same_wires : (g : ℕ) → SumsAlike g → ciphers_to p ksk bsk bs ins g ≡ ciphers_to p ksk bsk' bs ins g
  unfolding ciphers_to rotated_to gate_cipher gate_rotated
  same_wires zero h = refl
  same_wires (suc g) h =
      let ws = ciphers_to p ksk bsk bs ins g in
      let sums = rotated_to p ksk bsk bs ins g in
      let before = same_wires g (split_left (rotated_sample p bsk) (rotated_sample p bsk') sums (gate_rotated p bs ws g) h) in
      let own : gate_cipher p ksk bsk bs ws g ≡ gate_cipher p ksk bsk' bs ws g = rotated_alike p ksk bsk bsk' (way_of (kind_at bs g)) (cipher_at p ws (operand_at bs g 0)) (cipher_at p ws (operand_at bs g 1)) (cipher_at p ws (operand_at bs g 2)) (split_right (rotated_sample p bsk) (rotated_sample p bsk') sums (gate_rotated p bs ws g) h) in
      ap (λ (x : List ℕ). ws ++ x) own ∙ ap (λ (x : List ℕ). x ++ gate_cipher p ksk bsk' bs x g) before

  -- the whole run
  pub rotates_no_other : map (rotated_sample p bsk) (rotated_of p ksk bsk bs ins) ≡ map (rotated_sample p bsk') (rotated_of p ksk bsk bs ins)
      → ciphers_of p ksk bsk bs ins ≡ ciphers_of p ksk bsk' bs ins
  rotates_no_other h = same_wires (gates bs) h

  -- and what two runs that are not refused leave in their slices
  pub slices_no_other : (ws out : List ℕ)
      → RunGood p (length ksk) (length bsk) bs (length ins) (length ws) (length out) → RunGood p (length ksk) (length bsk') bs (length ins) (length ws) (length out)
      → map (rotated_sample p bsk) (rotated_of p ksk bsk bs ins) ≡ map (rotated_sample p bsk') (rotated_of p ksk bsk bs ins)
      → (wires_after p ksk bsk bs ins ws out ≡ wires_after p ksk bsk' bs ins ws out) × (outputs_after p ksk bsk bs ins ws out ≡ outputs_after p ksk bsk' bs ins ws out)
  slices_no_other ws out good good' h =
      let e = rotates_no_other h in (
        wires_written p ksk bsk bs ins ws out good ∙ e ∙ sym (wires_written p ksk bsk' bs ins ws out good'),
        outputs_written p ksk bsk bs ins ws out good ∙ ap (output_ciphers p bs) e ∙ sym (outputs_written p ksk bsk' bs ins ws out good'),
      )
