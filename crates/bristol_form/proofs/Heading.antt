-- The head's answer, token by token: each test that fails refuses where those before it hold. The chain of checks is rewritten by the tests' values.
-- Assumes nothing.
use mathlib.Core.Path.{◌≡◌, refl, sym, ap, ◌∙◌}
use mathlib.Core.Bool.{Bool, true, false, ◌||◌}
use mathlib.Core.List.{List, [], ◌∷◌}
use Prim.Native.Nat.{ℕ, ◌+◌, ◌-◌, ◌≤◌, ◌<◌}
use native.Mathlib.Numerals.{add-one}
use native.Mathlib.Omega.{arith}
use borrow.Author.Tests.{le-leb, lt-leb, lt-ltb, le-ltb, leb-true, ltb-true, ltb-false}
use lib.Dec.{leb, ltb, eqb}
use Rattle.std.specs.Prelude.{Result, Ok, Err}
use Rattle.params.specs.declared.refusal.Refusal.{Refusal}
use Rattle.params.specs.Refusal.{Answer}
use Rattle.params.specs.Refusal.{answer, unless, done, outcome}
use Rattle.params.specs.declared.refusal.Refusal.TheVariants.{Text, Limit}
use Rattle.circuit.specs.Form.{first, first_at, asks}
use Rattle.tokens.specs.Tokens.{past, number_at, place_at, token_at, no_number}
use Rattle.tokens.specs.declared.Token.{Token}
use Rattle.tokens.proofs.Laws.{past_none}
use Rattle.tokens.proofs.Reading.{Reading, reading, past_as}
use Rattle.bristol_form.specs.declared.Sizes.{Sizes}
use Rattle.bristol_form.proofs.Summed.{sizes_as, sum_as}
use Rattle.bristol_form.specs.Says.{gates, wires, input_values, sizes_to, input_sizes, inputs, output_values, output_sizes, outputs, body}
use Rattle.bristol_form.specs.Form.{size_answer, count_fields, value_fields, head_answer, head_limit}
use Rattle.circuit.proofs.Accept.{or_done}

module _ (text : List ℕ) where
  -- ---- what the head says, by its places

  pub input_sizes_lem : past text 0 3 ≡ input_sizes text
  unfolding input_sizes
  input_sizes_lem = refl

  pub inputs_summed : sizes_to text (input_sizes text) (input_values text) ≡ inputs text
  unfolding inputs
  inputs_summed = refl

  pub output_values_lem : number_at text (input_sizes text) (input_values text) ≡ output_values text
  unfolding output_values
  output_values_lem = refl

  pub output_sizes_lem : past text (input_sizes text) (input_values text + 1) ≡ output_sizes text
  unfolding output_sizes
  output_sizes_lem = ap (past text (input_sizes text)) (add-one (input_values text))

  pub outputs_summed : sizes_to text (output_sizes text) (output_values text) ≡ outputs text
  unfolding outputs
  outputs_summed = refl

  pub body_place : past text (output_sizes text) (output_values text) ≡ body text
  unfolding body
  body_place = refl

  pub set_as : {g i w : ℕ} {r : Bool} → g ≡ gates text → i ≡ inputs text → w ≡ wires text → r ≡ (ltb 0 g || eqb i w) → r ≡ (ltb 0 (gates text) || eqb (inputs text) (wires text))
  set_as a b c e = cc

  -- ---- the counts

  pub not_gates : no_number ≤ gates text → head_answer text ≡ record { number = 11; place = place_at text 0 0 }
  unfolding head_answer count_fields
  not_gates h = simp (le-ltb (gates text) no_number h)

  pub not_wires : gates text < no_number → no_number ≤ wires text → head_answer text ≡ record { number = 11; place = place_at text 0 1 }
  unfolding head_answer count_fields
  not_wires g h = simp (lt-ltb (gates text) no_number g, le-ltb (wires text) no_number h)

  pub few_wires : gates text < no_number → wires text < no_number → wires text < gates text → head_answer text ≡ record { number = 11; place = place_at text 0 1 }
  unfolding head_answer count_fields
  few_wires g w h = simp (lt-ltb (gates text) no_number g, lt-ltb (wires text) no_number w, lt-leb (gates text) (wires text) h)

  pub not_values : gates text < no_number → wires text < no_number → gates text ≤ wires text → no_number ≤ input_values text → head_answer text ≡ record { number = 11; place = place_at text 0 2 }
  unfolding head_answer count_fields
  not_values g w r h =
      simp (lt-ltb (gates text) no_number g, lt-ltb (wires text) no_number w, le-leb (gates text) (wires text) r, le-ltb (input_values text) no_number h)

-- the counts are numbers, and leave a wire for each gate
pub record Counts (text : List ℕ) : Type 0 where
  pub gates_fit : gates text < no_number
  pub wires_fit : wires text < no_number
  pub room : gates text ≤ wires text
  pub values_fit : input_values text < no_number

-- the answers to the input and the output values' sizes
abbrev pub inputs_answer : List ℕ → Answer
inputs_answer text = first (size_answer text (input_sizes text) 11 (wires text - gates text)) 0 (input_values text)

abbrev pub outputs_answer : List ℕ → Answer
outputs_answer text = first (size_answer text (output_sizes text) 11 (wires text)) 0 (output_values text)

module _ (text : List ℕ) (k : Counts text) where
  counts_done : first_at (count_fields text) ≡ answer 0
  unfolding count_fields
  counts_done =
      simp (lt-ltb (gates text) no_number k.gates_fit, lt-ltb (wires text) no_number k.wires_fit, le-leb (gates text) (wires text) k.room, lt-ltb (input_values text) no_number k.values_fit)

  counts_none : (first_at (count_fields text)).number ≡ 0
  counts_none = ap (λ (a : Answer). a.number) counts_done

  pub inputs_refused : (p : ℕ) → inputs_answer text ≡ record { number = 11; place = p } → head_answer text ≡ record { number = 11; place = p }
  unfolding head_answer
  inputs_refused p e = or_done (first_at (count_fields text)) _ counts_none ∙ rw e

  module _ (i : (inputs_answer text).number ≡ 0) where
    pub wires_left : (ltb 0 (gates text) || eqb (inputs text) (wires text)) ≡ false → head_answer text ≡ record { number = 11; place = place_at text 0 (2 + input_values text) }
    unfolding head_answer value_fields
    wires_left h = or_done (first_at (count_fields text)) _ counts_none ∙ or_done (inputs_answer text) _ i ∙ simp h

    pub not_outputs : (ltb 0 (gates text) || eqb (inputs text) (wires text)) ≡ true → no_number ≤ output_values text → head_answer text ≡ record { number = 11; place = place_at text (input_sizes text) (input_values text) }
    unfolding head_answer value_fields
    not_outputs s h = or_done (first_at (count_fields text)) _ counts_none ∙ or_done (inputs_answer text) _ i ∙ simp (s, le-ltb (output_values text) no_number h)

    pub outputs_decide : (ltb 0 (gates text) || eqb (inputs text) (wires text)) ≡ true → output_values text < no_number → head_answer text ≡ outputs_answer text
    unfolding head_answer value_fields
    outputs_decide s h = or_done (first_at (count_fields text)) _ counts_none ∙ or_done (inputs_answer text) _ i ∙ simp (s, lt-ltb (output_values text) no_number h)

-- ---- the head's tokens, each read behind the one before it

-- the token at a place, which is to be a number
abbrev pub asked : List ℕ → ℕ → Result Token Refusal
asked text q = unless (ltb (token_at text q).number no_number) (Text (token_at text q).start) (Ok (token_at text q))

ask_ok : (test : Bool) (r : Refusal) (v : Token) {t : Token} → unless test r (Ok v) ≡ Ok t → (test ≡ true) × (t ≡ v)
ask_ok true r v e = (refl, cc)
ask_ok false r v e = absurd cc

ask_err : (test : Bool) (r : Refusal) (v : Token) {x : Refusal} → unless test r (Ok v) ≡ Err x → (test ≡ false) × (x ≡ r)
ask_err true r v e = absurd cc
ask_err false r v e = (refl, cc)

-- token i from place p on is a number, or it is none
pub is_number : (text : List ℕ) (p i : ℕ) {q : ℕ} {t : Token} → q ≡ past text p i → asked text q ≡ Ok t → Reading text p i t × (number_at text p i < no_number)
is_number text p i {q} {t} e h =
    let a = ask_ok (ltb (token_at text q).number no_number) (Text (token_at text q).start) (token_at text q) h in
    let r = reading text p i e a.1 in
    let l = ltb-true (token_at text q).number no_number a.0 in
    (r, (let n : number_at text p i ≡ (token_at text q).number = sym r.number_is ∙ ap (λ (u : Token). u.number) a.1 in omega arith))

pub not_number : (text : List ℕ) (p i : ℕ) {q : ℕ} {x : Refusal} → q ≡ past text p i → asked text q ≡ Err x → (no_number ≤ number_at text p i) × (x ≡ Text (place_at text p i))
not_number text p i {q} {x} e h =
    let a = ask_err (ltb (token_at text q).number no_number) (Text (token_at text q).start) (token_at text q) h in
    let r = reading text p i e refl in
    let l = ltb-false (token_at text q).number no_number a.0 in
    ((let n = r.number_is in omega arith), a.1 ∙ ap (λ (s : ℕ). Text s) r.start_is)

-- the numbers of gates, wires and input values are read
pub record Begun (text : List ℕ) (g w n : Token) : Type 0 where
  pub gates_read : Reading text 0 0 g
  pub wires_read : Reading text 0 1 w
  pub values_read : Reading text 0 2 n
  pub counts : Counts text

pub begun : (text : List ℕ) {g w n : Token} → asked text 0 ≡ Ok g → asked text g.end ≡ Ok w → leb g.number w.number ≡ true → asked text w.end ≡ Ok n → Begun text g w n
begun text {g} {w} {n} a b l c =
    let x = is_number text 0 0 (sym (past_none text 0)) a in
    let y = is_number text 0 1 x.0.end_is b in
    let z = is_number text 0 2 y.0.end_is c in
    let m = leb-true g.number w.number l in
    let u = x.0.number_is in
    let v = y.0.number_is in
    record { gates_read = x.0; wires_read = y.0; values_read = z.0; counts = record { gates_fit = x.1; wires_fit = y.1; room = omega arith; values_fit = z.1 } }

-- the answer to the sizes of the input values, by the tokens that were read, and what they say where none is refused
module _ (text : List ℕ) {g w n : Token} (k : Begun text g w n) where
  pub inputs_told : {a : Answer} → first (size_answer text n.end 11 (w.number - g.number)) 0 n.number ≡ a → inputs_answer text ≡ a
  inputs_told t =
      let u = k.gates_read.number_is in
      let v = k.wires_read.number_is in
      let e : w.number - g.number ≡ wires text - gates text = cc in
      sizes_as text 11 (k.values_read.end_is ∙ input_sizes_lem text) e k.values_read.number_is t

  module _ (s : Sizes) (said : (s.sum ≡ sizes_to text n.end n.number) × (s.at ≡ past text n.end n.number)) where
    pub inputs_are : s.sum ≡ inputs text
    inputs_are = sum_as text (k.values_read.end_is ∙ input_sizes_lem text) k.values_read.number_is said.0 ∙ inputs_summed text

    pub values_next : s.at ≡ past text (input_sizes text) (input_values text)
    values_next = past_as text (k.values_read.end_is ∙ input_sizes_lem text) k.values_read.number_is said.1

    pub set_read : {t : Bool} → t ≡ (ltb 0 g.number || eqb s.sum w.number) → t ≡ (ltb 0 (gates text) || eqb (inputs text) (wires text))
    set_read h = set_as text k.gates_read.number_is inputs_are k.wires_read.number_is h

    -- the same of the output values
    module _ {m : Token} (r : Reading text (input_sizes text) (input_values text) m) where
      pub outputs_told : {a : Answer} → first (size_answer text m.end 11 w.number) 0 m.number ≡ a → outputs_answer text ≡ a
      outputs_told t = sizes_as text 11 (r.end_is ∙ output_sizes_lem text) k.wires_read.number_is (r.number_is ∙ output_values_lem text) t

      pub outputs_are : {q : ℕ} → q ≡ sizes_to text m.end m.number → q ≡ outputs text
      outputs_are h = sum_as text (r.end_is ∙ output_sizes_lem text) (r.number_is ∙ output_values_lem text) h ∙ outputs_summed text

      pub body_is : {q : ℕ} → q ≡ past text m.end m.number → q ≡ body text
      body_is h = past_as text (r.end_is ∙ output_sizes_lem text) (r.number_is ∙ output_values_lem text) h ∙ body_place text

-- ---- the limits

-- the same, with the bounds of 01
abbrev pub inputs_limit : List ℕ → Answer
inputs_limit text = first (size_answer text (input_sizes text) 12 256) 0 (input_values text)

abbrev pub outputs_limit : List ℕ → Answer
outputs_limit text = first (size_answer text (output_sizes text) 12 64) 0 (output_values text)

module _ (text : List ℕ) where
  pub inputs_past : (p : ℕ) → inputs_limit text ≡ record { number = 12; place = p } → head_limit text ≡ record { number = 12; place = p }
  unfolding head_limit
  inputs_past p e = rw e

  pub outputs_past : (p : ℕ) → inputs_limit text ≡ answer 0 → outputs_limit text ≡ record { number = 12; place = p } → head_limit text ≡ record { number = 12; place = p }
  unfolding head_limit
  outputs_past p i e = rw (i, e)

  pub outputs_some : (p : ℕ) → inputs_limit text ≡ answer 0 → outputs_limit text ≡ answer 0 → p ≡ place_at text (input_sizes text) (input_values text + output_values text)
      → unless (ltb 0 (outputs text)) (Limit p) done ≡ outcome (head_limit text)
  unfolding head_limit
  outputs_some p i o e = rw (i, o, e) (go (ltb 0 (outputs text)) (place_at text (input_sizes text) (input_values text + output_values text)))
    where
      go : (t : Bool) (q : ℕ) → unless t (Limit q) done ≡ outcome (first_at (asks t 12 q ∷ []))
      go true q = refl
      go false q = refl
