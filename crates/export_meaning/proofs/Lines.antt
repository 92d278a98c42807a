-- Lines of text gates, one after another, that set wire after wire: each is read as it was printed. An induction on the lines passed.
-- Assumes nothing.
use mathlib.Core.Path.{◌≡◌, refl, sym, ap, subst, ◌∙◌}
use mathlib.Core.Logic.{◌⊎◌}
use mathlib.Core.List.{List, [], ◌∷◌, ◌++◌, append_assoc}
use Prim.Native.Nat.{ℕ, zero, suc, ◌+◌, ◌≤◌, ◌<◌}
use native.Mathlib.Omega.{arith}
use lib.ListN.{length, drop, get_or}
use lib.Seq.{drop-cons}
use Rattle.tokens.specs.Tokens.{no_number}
use Rattle.bristol_form.specs.Says.{body, gate_at}
use Rattle.bristol_export.specs.Text.{line_text}
use Rattle.export_meaning.proofs.Before.{Before}
use Rattle.export_meaning.proofs.Line.{Said, operands_of, said_line}

-- a text gate: its name, what it reads, the wire that it sets
pub record Line : Type 0 where
  pub name : ℕ
  pub first : ℕ
  pub second : ℕ
  pub result : ℕ

abbrev pub text_of : Line → List ℕ
text_of l = line_text l.name l.first l.second l.result

unfoldable pub lines_text : List Line → List ℕ
lines_text [] = []
lines_text (l ∷ ls) = text_of l ++ lines_text ls

pub lines_append : (a b : List Line) → lines_text (a ++ b) ≡ lines_text a ++ lines_text b
unfolding lines_text
lines_append [] b = refl
lines_append (l ∷ a) b = ap (λ (t : List ℕ). text_of l ++ t) (lines_append a b) ∙ sym (append_assoc (text_of l) (lines_text a) (lines_text b))

abbrev pub no_line : Line
no_line = record { name = 0; first = 0; second = 0; result = 0 }

abbrev pub line_at : List Line → ℕ → Line
line_at ls j = get_or ls j no_line

-- line j behind i wires: it sets the next wire and reads earlier ones, EQ a constant
pub record Ordered (i j : ℕ) (l : Line) : Type 0 where
  pub from : 1 ≤ l.name
  pub to : l.name ≤ 5
  pub sets : l.result ≡ i + j
  pub first_good : ((l.name ≡ 4) × (l.first ≤ 1)) ⊎ ((l.name ≡ 4 → ⊥) × (l.first < i + j))
  pub first_small : l.first < no_number
  pub second_good : l.name < 3 → l.second < i + j
  pub second_small : l.second < no_number

-- the lines of a text whose first i wires are inputs
pub record Bodied (text : List ℕ) (i : ℕ) (ls : List Line) : Type 0 where
  pub printed : Before text (body text) (lines_text ls)
  pub ordered : (j : ℕ) → j < length ls → Ordered i j (line_at ls j)
  pub small : i + length ls < no_number

module _ (text : List ℕ) (i : ℕ) (ls : List Line) (b : Bodied text i ls) where
  said_next : (j : ℕ) → j < length ls → Before text (gate_at text j) (lines_text (drop j ls))
      → Said text (gate_at text j) (operands_of (line_at ls j).name) (line_at ls j).name (line_at ls j).first (line_at ls j).second (line_at ls j).result (lines_text (drop (suc j) ls))
  unfolding lines_text
  said_next j h p =
      let l = line_at ls j in
      let o = b.ordered j h in
      let s = b.small in
      let e = o.sets in
      said_line text (gate_at text j) l.name l.first l.second l.result (lines_text (drop (suc j) ls)) o.first_small o.second_small (omega arith) o.from o.to
      (subst (λ (r : List Line). Before text (gate_at text j) (lines_text r)) (drop-cons ls j no_line h) p)

  -- where gate j is read, the lines from j on are left
  pub left : (j : ℕ) → j ≤ length ls → Before text (gate_at text j) (lines_text (drop j ls))
  unfolding gate_at
  left zero h = b.printed
  left (suc j) h = (said_next j h (left j (omega arith))).next

  pub gate_said : (j : ℕ) → j < length ls → Said text (gate_at text j) (operands_of (line_at ls j).name) (line_at ls j).name (line_at ls j).first (line_at ls j).second (line_at ls j).result (lines_text (drop (suc j) ls))
  gate_said j h = said_next j h (left j (omega arith))
