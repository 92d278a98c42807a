-- Parts of a list, and lists one after another: how slices lie in the slice that holds them.
use Rattle.std.specs.Prelude.{ℕ, zero, suc, List, [], ◌++◌, take, drop}

-- The m words of a list from place s on.
unfoldable pub part : ℕ → ℕ → List ℕ → List ℕ
part m s l = take m (drop s l)

-- The lists f 0 .. f (n - 1), one after another.
unfoldable pub joined : ℕ → (ℕ → List ℕ) → List ℕ
joined zero f = []
joined (suc n) f = joined n f ++ f n
