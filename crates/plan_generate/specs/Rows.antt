-- Recipes, the lent memory's length and what the call answers; and one plan, byte by byte. Definitions only.
use Rattle.std.specs.Prelude.{◌≡◌, ◌⊎◌, List, [], ◌∷◌, ℕ, length}
use Rattle.std.proofs.Common.{inl, inr}
use Rattle.plan_draws.specs.declared.Recipe.{Recipe}
use Rattle.plan_generate.specs.Calls.{Generates}

pub record RecipeRow : Type 0 where
  pub recipe : Recipe
  pub room : ℕ
  pub answer : ℕ ⊎ ℕ

abbrev pub RowAnswers : RecipeRow → Type 0
RowAnswers w = (out out' : List ℕ) (a : ℕ ⊎ ℕ) → length out ≡ w.room → Generates w.recipe out a out' → a ≡ w.answer

abbrev pub AllRowsAnswer : List RecipeRow → Type 0
AllRowsAnswer [] = Unit {0}
AllRowsAnswer (w ∷ l) = RowAnswers w × AllRowsAnswer l

abbrev recipe : ℕ → ℕ → ℕ → Recipe
recipe s g t = record { seed = s; groups = g; tasks = t }

abbrev row : ℕ → ℕ → ℕ → ℕ → ℕ ⊎ ℕ → RecipeRow
row s g t n a = record { recipe = recipe s g t; room = n; answer = a }

abbrev pub rows : List RecipeRow
rows =
    -- 30, before 15: no group, too many, fewer tasks than groups, too many
    row 1 0 0 0 (inl 30)
    ∷ row 1 61 61 2048 (inl 30)
    ∷ row 1 2 1 0 (inl 30)
    ∷ row 1 60 61 2048 (inl 30)
    -- 15: one byte short, and exact
    ∷ row 0 1 1 45 (inl 15)
    ∷ row 0 1 1 46 (inr 46)
    ∷ row 4294967295 2 2 67 (inl 15)
    ∷ row 4294967295 2 2 2048 (inr 68)
    ∷ row 1 60 60 1403 (inl 15)
    ∷ row 1 60 60 1404 (inr 1404)
    ∷ []

-- a plan of three groups and four tasks
abbrev pub small : Recipe
small = recipe 123456789 3 4

abbrev pub small_bytes : List ℕ
small_bytes =
    -- 8 nodes, 8 conditions, 1 order, 8 flags; no flag is set
    8 ∷ 0 ∷ 8 ∷ 0 ∷ 1 ∷ 0 ∷ 8 ∷ 0 ∷ 0 ∷ 0 ∷ 0 ∷ 0 ∷ 0 ∷ 0 ∷ 0 ∷ 0
    -- SOAK, G001 to G003, T004 to T007
    ∷ 83 ∷ 79 ∷ 65 ∷ 75 ∷ 71 ∷ 48 ∷ 48 ∷ 49 ∷ 71 ∷ 48 ∷ 48 ∷ 50 ∷ 71 ∷ 48 ∷ 48 ∷ 51
    ∷ 84 ∷ 48 ∷ 48 ∷ 52 ∷ 84 ∷ 48 ∷ 48 ∷ 53 ∷ 84 ∷ 48 ∷ 48 ∷ 54 ∷ 84 ∷ 48 ∷ 48 ∷ 55
    -- parents, kinds and minutes
    ∷ 255 ∷ 1 ∷ 0 ∷ 0 ∷ 0 ∷ 2 ∷ 0 ∷ 0 ∷ 0 ∷ 1 ∷ 0 ∷ 0 ∷ 0 ∷ 1 ∷ 0 ∷ 0
    ∷ 1 ∷ 0 ∷ 5 ∷ 0 ∷ 2 ∷ 0 ∷ 47 ∷ 0 ∷ 3 ∷ 0 ∷ 13 ∷ 0 ∷ 1 ∷ 0 ∷ 55 ∷ 0
    -- the conditions' tasks
    ∷ 4 ∷ 4 ∷ 5 ∷ 5 ∷ 6 ∷ 6 ∷ 7 ∷ 7
    -- and values
    ∷ 1 ∷ 0 ∷ 1 ∷ 1 ∷ 7 ∷ 0 ∷ 7 ∷ 1 ∷ 4 ∷ 0 ∷ 68 ∷ 1 ∷ 2 ∷ 0 ∷ 66 ∷ 1
    -- the order
    ∷ 1 ∷ 2
    ∷ []
