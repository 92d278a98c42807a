-- What only routines and proofs need.
use Rattle.std.specs.Prelude.{◌≡◌, cond, ◌||◌, List, ℕ, ◌≤◌, ◌<◌, eqb, length}
use Rattle.ring.specs.Word.{at}
use Rattle.tokens.specs.Tokens.{past, word_of, number_of, name_of, xor_name, and_name}
use Rattle.tokens.specs.Back.{back_of}
use Rattle.bristol_form.specs.Says.{wires, name_place, operand, result, gate_name}
use Rattle.bristol_form.specs.Valid.{InForm, InLimits}
use Rattle.bristol.specs.declared.Line.{Line}
use Rattle.bristol.specs.declared.BehindLine.{BehindLine}
use Rattle.bristol.specs.Import.{ours_to}

-- How many wires the call's table holds; those of a text with more wires are looked up in the text.
abbrev pub tabled : ℕ
tabled = 24576

-- The table has, unless the text has more wires, our wire for each before gate j.
pub record Tabled (text table : List ℕ) (j : ℕ) : Type 0 where
  pub long : length table ≡ tabled
  pub each : wires text ≤ tabled → (w : ℕ) → w < tabled → at table w ≡ ours_to text j w

-- What the gate at p says, as far as an import reads it.
unfoldable pub line_at : List ℕ → ℕ → Line
line_at text p =
    record {
      first = operand text p 0;
      second = operand text p 1;
      result = result text p 0;
      name = gate_name text p;
      at = past text (name_place text p) 1;
    }

-- A text that is not refused.
pub record Taken (text : List ℕ) : Type 0 where
  pub form : InForm text
  pub limits : InLimits text

-- The gate that ends at place e, read backwards: its name, its result, its last operand; by the name it has two operands or one; then the number of its results and that
-- of its operands.
unfoldable pub behind_of : List ℕ → ℕ → BehindLine
behind_of text e =
    let n = back_of text e in
    let c = back_of text n.before in
    let a = back_of text c.before in
    let name = name_of (word_of text n.start) in
    let first = cond (eqb name xor_name || eqb name and_name) (back_of text a.before).before a.before in
    record {
      name = name;
      result = number_of (word_of text c.start);
      last = number_of (word_of text a.start);
      at = (back_of text (back_of text first).before).before;
    }
