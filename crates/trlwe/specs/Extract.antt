-- `sample_extract_index` (01, trlwe; TFHE paper, Definition 4.1): the sample of one coefficient of a pair of polynomials.
use Rattle.std.specs.Prelude.{List, [], ◌∷◌, ◌++◌, ℕ, ◌+◌, length}
use Rattle.params.specs.declared.Params.{Params}
use Rattle.params.specs.Refusal.{if_done}
use Rattle.params.specs.Sizes.{size}
use Rattle.refusals.specs.Table.{Check, is, below, refusal_by}
use Rattle.ring.specs.Word.{at}
use Rattle.ring.specs.Phase.{extract}

-- The checks of an extraction at k from polynomials of la and lb words into lo words: 2 for the lengths, then 3 unless k is below N.
abbrev pub extract_checks : Params → ℕ → ℕ → ℕ → ℕ → List Check
extract_checks p la lb k lo = is la (size p) 2 ∷ is lb (size p) 2 ∷ is lo (size p + 1) 2 ∷ below k (size p) 3 ∷ []

-- Its refusal: 1, 2, 3 or 0.
unfoldable pub extract_number : Params → ℕ → ℕ → ℕ → ℕ → ℕ
extract_number p la lb k lo = refusal_by p (extract_checks p la lb k lo)

-- The sample: p[i] = a[k-i] for i up to k, else MAX - a[N+k-i]; last word b[k].
abbrev pub extracted : ℕ → ℕ → List ℕ → List ℕ → List ℕ
extracted N k a b = extract N k a ++ (at b k ∷ [])

-- What the routine leaves in out, which held o.
abbrev pub extract_out : Params → List ℕ → List ℕ → ℕ → List ℕ → List ℕ
extract_out p a b k o = if_done (extract_number p (length a) (length b) k (length o)) (extracted (size p) k a b) o
