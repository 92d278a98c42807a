-- Sums and multiples of ciphertexts: their refusals, and what ring's `plus`, `minus` and `scale` do not say yet.
use Rattle.std.specs.Prelude.{List, [], ◌∷◌, ℕ, ◌%◌, length}
use Rattle.ring.specs.Word.{Q, at, neg}
use Rattle.ring.specs.Sums.{tab}
use Rattle.params.specs.declared.Params.{Params}
use Rattle.params.specs.Refusal.{if_done}
use Rattle.refusals.specs.Table.{Check, is, refusal_by}
use Rattle.tlwe.specs.declared.Level.{Level}
use Rattle.tlwe.specs.Level.{cipher_words}

-- The checks of an operation on ciphertexts of la, lb and lo words, which are to have m: 2 for each. (Negation has one operand: its length stands for both.)
abbrev pub linear_checks : ℕ → ℕ → ℕ → ℕ → List Check
linear_checks m la lb lo = is la m 2 ∷ is lb m 2 ∷ is lo m 2 ∷ []

-- Its refusal at a level: 1, 2 or 0.
unfoldable pub linear_number : Params → Level → ℕ → ℕ → ℕ → ℕ
linear_number p level la lb lo = refusal_by p (linear_checks (cipher_words p level) la lb lo)

-- What the result's slice, o before the call, holds after it: the content, and o itself where the call is refused.
abbrev pub linear_out : Params → Level → List ℕ → List ℕ → List ℕ → List ℕ → List ℕ
linear_out p level a b o content = if_done (linear_number p level (length a) (length b) (length o)) content o

-- -a, word by word, with true negation: `Neg` of src/tlwe.rs.
unfoldable pub negative : ℕ → List ℕ → List ℕ
negative m a = tab m (λ i. neg (at a i) % Q)
