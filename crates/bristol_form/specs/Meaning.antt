-- The Boolean meaning of a text in the form: each gate, in the text's order, gives its result wires bits from those of its operand wires; the outputs are the last wires.
use Rattle.std.specs.Prelude.{Bool, false, cond, not, ◌&&◌, List, ℕ, zero, suc, ◌+◌, ◌-◌, eqb}
use Rattle.std.specs.Bool.{xor}
use Rattle.ring.specs.Word.{at}
use Rattle.ring.specs.Sums.{tab}
use Rattle.ring.specs.Bit.{truth, bit_number}
use Rattle.tokens.specs.Tokens.{xor_name, and_name, inv_name, eq_name, eqw_name, mand_name}
use Rattle.bristol_form.specs.Says.{gates, wires, outputs, gate_at, result_count, operand, result, gate_name}

-- A name's meaning on the bits of two operands; the constant is EQ's.
unfoldable pub name_meaning : ℕ → ℕ → Bool → Bool → Bool
name_meaning name constant a b =
    cond (eqb name xor_name) (xor a b)
    (cond (eqb name and_name) (a && b)
    (cond (eqb name mand_name) (a && b)
    (cond (eqb name inv_name) (not a)
    (cond (eqb name eq_name) (truth constant)
    (cond (eqb name eqw_name) a false)))))

-- The bit of result y of the gate at p, the wires' bits before it being given: of its operand y, and of that as far behind it as there are results
-- (with one result: of the first and the second).
unfoldable pub result_bit : List ℕ → ℕ → (ℕ → Bool) → ℕ → Bool
result_bit text p bits y = name_meaning (gate_name text p) (operand text p y) (bits (operand text p y)) (bits (operand text p (result_count text p + y)))

-- Wire w's bit after the first y results of the gate at p.
unfoldable pub after_results : List ℕ → ℕ → (ℕ → Bool) → ℕ → ℕ → Bool
after_results text p bits zero w = bits w
after_results text p bits (suc y) w = cond (eqb w (result text p y)) (result_bit text p bits y) (after_results text p bits y w)

-- Wire w's bit after j gates; the first wires have the inputs' bits.
unfoldable pub wire_bit : List ℕ → List ℕ → ℕ → ℕ → Bool
wire_bit text ins zero w = truth (at ins w)
wire_bit text ins (suc j) w = after_results text (gate_at text j) (wire_bit text ins j) (result_count text (gate_at text j)) w

-- The outputs' bits.
unfoldable pub meaning_of : List ℕ → List ℕ → List ℕ
meaning_of text ins = tab (outputs text) (λ o. bit_number (wire_bit text ins (gates text) (wires text - outputs text + o)))
