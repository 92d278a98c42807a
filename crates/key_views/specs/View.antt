-- What a view of a lent key refers to, and when it is refused (01, 'What changes shape': a struct that refers to the lent key slice).
use Rattle.std.specs.Prelude.{List, [], ◌∷◌, ℕ, length}
use Rattle.params.specs.declared.Params.{Params}
use Rattle.params.specs.Refusal.{if_done}
use Rattle.refusals.specs.Table.{is, refusal_by}

-- The refusal of a view over a slice of len words, of a key that has so many words: 1, then 2.
unfoldable pub view_number : Params → ℕ → ℕ → ℕ
view_number p words len = refusal_by p (is len words 2 ∷ [])

-- What the view refers to: the lent slice, and where the view is refused its empty part (01: 'A refused lookup hands back an empty part').
unfoldable pub viewed : Params → ℕ → List ℕ → List ℕ
viewed p words key = if_done (view_number p words (length key)) key []
