-- Encryption of N doubles or N bits (01, trlwe): a = the lent masks, b = lent noise + plain words + a·z, z the level-1 key.
use Rattle.std.specs.Prelude.{List, [], ◌∷◌, ℕ, length}
use Rattle.params.specs.declared.Params.{Params}
use Rattle.params.specs.Refusal.{if_done}
use Rattle.params.specs.Sizes.{size}
use Rattle.refusals.specs.Table.{Check, is, holds, refusal_by}
use Rattle.ring.specs.Word.{at}
use Rattle.ring.specs.Sums.{tab}
use Rattle.ring.specs.Poly.{plus, times}
use Rattle.tlwe.specs.Key.{binary}
use Rattle.tlwe.specs.Plain.{bit_word}
use Rattle.ring.specs.Bit.{truth}

-- The checks of an encryption of lp values with lm masks and ln noise words into la and lb words: 2 unless each has N, then 4 for the key.
abbrev pub encrypt_pair_checks : Params → ℕ → ℕ → ℕ → List ℕ → ℕ → ℕ → List Check
encrypt_pair_checks p lp lm ln key la lb =
    is lp (size p) 2
    ∷ is lm (size p) 2
    ∷ is ln (size p) 2
    ∷ is (length key) (size p) 2
    ∷ is la (size p) 2
    ∷ is lb (size p) 2
    ∷ holds (binary key) 4
    ∷ []

-- Its refusal: 1, 2, 4 or 0.
unfoldable pub encrypt_pair_number : Params → ℕ → ℕ → ℕ → List ℕ → ℕ → ℕ → ℕ
encrypt_pair_number p lp lm ln key la lb = refusal_by p (encrypt_pair_checks p lp lm ln key la lb)

-- b of a fresh pair: plain words + noise + a·z, where a is the masks.
unfoldable pub fresh_body : ℕ → List ℕ → List ℕ → List ℕ → List ℕ → List ℕ
fresh_body N plain noise masks z = plus N (plus N plain noise) (times N masks z)

-- The words of lent bits, each ±0.125 of a turn.
abbrev pub words_of_bits : List ℕ → List ℕ
words_of_bits bytes = tab (length bytes) (λ i. bit_word (truth (at bytes i)))

-- What an encryption leaves in a, which held a, lp being the number of plain values: the masks.
abbrev pub mask_out : Params → ℕ → List ℕ → List ℕ → List ℕ → List ℕ → List ℕ → List ℕ
mask_out p lp masks noise key a b = if_done (encrypt_pair_number p lp (length masks) (length noise) key (length a) (length b)) masks a

-- What it leaves in b, which held b, plain being the words of the plain values.
abbrev pub body_out : Params → ℕ → List ℕ → List ℕ → List ℕ → List ℕ → List ℕ → List ℕ → List ℕ
body_out p lp plain masks noise key a b =
    if_done (encrypt_pair_number p lp (length masks) (length noise) key (length a) (length b)) (fresh_body (size p) plain noise masks key) b
