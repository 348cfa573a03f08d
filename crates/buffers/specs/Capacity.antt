-- The capacity of buffers that belong together: the shortest one's.
use Rattle.std.specs.Prelude.{List, ℕ, min, length}

abbrev pub least3 : List ℕ → List ℕ → List ℕ → ℕ
least3 a b c = min (length a) (min (length b) (length c))

abbrev pub least4 : List ℕ → List ℕ → List ℕ → List ℕ → ℕ
least4 a b c d = min (min (length a) (length b)) (min (length c) (length d))
