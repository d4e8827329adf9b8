-- The nodes in a state's bytes: a byte for each, after the eight of the flags, then for each a number of two bytes, the
-- ordinal of its start (02: place). Which tasks have been started, and when 16 covers their ordinals.
use Rattle.std.specs.Prelude.{ℕ, suc, ◌+◌, ◌*◌, Bool, not, ◌&&◌, List, get_or, eqb}
use Rattle.base.specs.Count.{count_below}
use Rattle.plan_format.specs.Format.{u16_at, node_count, is_kind}
use Rattle.runs.specs.Searches.{any_below}

-- the byte of node n
unfoldable pub node_byte : List ℕ → ℕ → ℕ
node_byte s n = get_or s (8 + n) 0

-- where the ordinal of node n stands, and what it is
unfoldable pub ordinal_at : List ℕ → ℕ → ℕ
ordinal_at b n = 8 + node_count b + 2 * n

unfoldable pub ordinal_in : List ℕ → List ℕ → ℕ → ℕ
ordinal_in b s n = u16_at s (ordinal_at b n)

-- node n is a started task; how many there are, and how many of them have the ordinal k
unfoldable pub started_in : List ℕ → List ℕ → ℕ → Bool
started_in b s n = is_kind b n 0 && not (eqb (node_byte s n) 0)

unfoldable pub started_count : List ℕ → List ℕ → ℕ
started_count b s = count_below (node_count b) (started_in b s)

unfoldable pub holders : List ℕ → List ℕ → ℕ → ℕ
holders b s k = count_below (node_count b) (λ n. started_in b s n && eqb (ordinal_in b s n) k)

-- 16 also covers an ordinal at a node not started, and ordinals of the started tasks that are not each of 1 to their
-- count exactly once
unfoldable pub stray_ordinal : List ℕ → List ℕ → ℕ → Bool
stray_ordinal b s n = not (started_in b s n) && not (eqb (ordinal_in b s n) 0)

unfoldable pub misnumbered : List ℕ → List ℕ → Bool
misnumbered b s = any_below (started_count b s) (λ k. not (eqb (holders b s (suc k)) 1))
