-- Plans that examples speak of. Definitions only.
use Rattle.std.specs.Prelude.{List, [], ◌∷◌, ◌++◌, replicate, ℕ, zero, suc}

-- 01's book B
unfoldable pub plan_b : List ℕ
plan_b = 5 ∷ 0 ∷ 8 ∷ 0 ∷ 1 ∷ 0 ∷ 2 ∷ 0 ∷ 0 ∷ 0 ∷ 0 ∷ 0 ∷ 0 ∷ 0 ∷ 0 ∷ 0 ∷ 77 ∷ 79 ∷ 79 ∷ 82 ∷ 67 ∷ 65 ∷ 83 ∷ 84 ∷ 67 ∷ 79
    ∷ 77 ∷ 83 ∷ 82 ∷ 65 ∷ 68 ∷ 73 ∷ 83 ∷ 65 ∷ 84 ∷ 76 ∷ 255 ∷ 1 ∷ 0 ∷ 0 ∷ 0 ∷ 0 ∷ 12 ∷ 0 ∷ 0 ∷ 2 ∷ 0 ∷ 0 ∷ 2 ∷ 0 ∷ 3 ∷ 0
    ∷ 2 ∷ 0 ∷ 5 ∷ 0 ∷ 1 ∷ 1 ∷ 1 ∷ 3 ∷ 3 ∷ 3 ∷ 4 ∷ 4 ∷ 0 ∷ 0 ∷ 192 ∷ 0 ∷ 0 ∷ 1 ∷ 0 ∷ 0 ∷ 193 ∷ 0 ∷ 1 ∷ 1 ∷ 193 ∷ 0 ∷ 1 ∷
    1 ∷ 1 ∷ 2 ∷ []

-- sizes N, 0, 0, 1 and no start flag
unfoldable pub sized : ℕ → List ℕ
sized n = n ∷ 0 ∷ 0 ∷ 0 ∷ 0 ∷ 0 ∷ 1 ∷ 0 ∷ replicate 8 0

-- n entries of tasks under the root
unfoldable pub tasks : ℕ → List ℕ
tasks zero = []
tasks (suc n) = 0 ∷ 0 ∷ 1 ∷ 0 ∷ tasks n

-- an all-of ROOT with n tasks of these names, which all wait 0
unfoldable pub flat : ℕ → List ℕ → List ℕ
flat n names = sized (suc n) ++ (82 ∷ 79 ∷ 79 ∷ 84 ∷ names ++ (255 ∷ 1 ∷ 0 ∷ 0 ∷ tasks n))

-- ZZZZ, AAAA
unfoldable pub falling_names : List ℕ
falling_names = flat 2 (90 ∷ 90 ∷ 90 ∷ 90 ∷ 65 ∷ 65 ∷ 65 ∷ 65 ∷ [])

-- SAME, SAME, SAME, SAME
unfoldable pub equal_names : List ℕ
equal_names = flat 4 (83 ∷ 65 ∷ 77 ∷ 69 ∷ 83 ∷ 65 ∷ 77 ∷ 69 ∷ 83 ∷ 65 ∷ 77 ∷ 69 ∷ 83 ∷ 65 ∷ 77 ∷ 69 ∷ [])

-- TMPC, TMPA, TMPB
unfoldable pub last_characters : List ℕ
last_characters = flat 3 (84 ∷ 77 ∷ 80 ∷ 67 ∷ 84 ∷ 77 ∷ 80 ∷ 65 ∷ 84 ∷ 77 ∷ 80 ∷ 66 ∷ [])

-- A---, 9ZZZ, -ZZZ, 0---
unfoldable pub first_characters : List ℕ
first_characters = flat 4 (65 ∷ 45 ∷ 45 ∷ 45 ∷ 57 ∷ 90 ∷ 90 ∷ 90 ∷ 45 ∷ 90 ∷ 90 ∷ 90 ∷ 48 ∷ 45 ∷ 45 ∷ 45 ∷ [])
