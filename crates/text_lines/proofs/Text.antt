-- The text of the task lines: how long it is, and that it is written line by line. Assumes nothing.
use mathlib.Core.Path.{◌≡◌, refl, sym, ap, ◌∙◌}
use mathlib.Core.List.Memᴰ.{head as here}
use mathlib.Core.List.{List, [], ◌∷◌, ◌++◌, append_assoc, append-nil, Memᴰ as Among}
use mathlib.Core.List.Memᴰ.{tail as there}
use Prim.Native.Nat.{ℕ, suc, ◌+◌, ◌*◌, ◌<◌, ◌≤◌}
use native.Mathlib.Numerals.{add-one}
use native.Mathlib.Omega.{arith}
use lib.ListN.{length, get_or, take, drop, length-append}
use lib.Seq.{take-suc, take_all, drop-cons}
use Rattle.plan_format.specs.Format.{node_count, name_char, name_of}
use Rattle.plan_check.proofs.Accepted.{Clean}
use Rattle.text_decimals.specs.declared.Text.{Text}
use Rattle.text_decimals.specs.Writes.{Writes}
use Rattle.text_decimals.specs.Model.{decimal}
use Rattle.text_decimals.proofs.Decimals.{length_limit, plain, plain_only}
use Rattle.text_decimals.proofs.Writes.{writes_none, writes_then, writes_same}
use Rattle.wait_lengths.specs.Waits.{longest_wait}
use Rattle.wait_lengths.proofs.Bounds.{end_limit}
use Rattle.text_order.specs.Model.{ranked_to, ranking}
use Rattle.text_order.proofs.Keys.{name_length}
use Rattle.text_order.proofs.Order.{among_at, ranked_task, ranking_length}
use Rattle.text_lines.specs.Lines.{TaskLines, no_lines, line}
use Rattle.text_lines.specs.Model.{ending, line_of, lines_of}

pub ending_length : (n : ℕ) → length (ending n) ≡ length (decimal n) + 2
unfolding ending
ending_length n = omega (arith, length-append (decimal n) (10 ∷ []))

pub line_length : (b : List ℕ) (t w : ℕ) → length (line_of b t w) ≡ length (ending w) + 4
unfolding line_of
line_length b t w = omega (arith, length-append (name_of b t) (ending w), name_length b t)

-- a number of at most 7 digits
pub ending_limit : (n : ℕ) → n ≤ 1290240 → length (ending n) ≤ 9
ending_limit n l = omega (arith, ending_length n, length_limit 6 n (omega arith))

pub line_limit : (b : List ℕ) (t w : ℕ) → w ≤ 1290240 → length (line_of b t w) ≤ 13
line_limit b t w l = omega (arith, line_length b t w, ending_limit w l)

-- the longest waits are within that
module _ {b : List ℕ} (ok : Clean b) where
  wait_limit : (t : ℕ) → t < node_count b → longest_wait b t ≤ 1290240
  wait_limit t l = omega (arith, end_limit b ok t l)

  pub task_limit : {t w : ℕ} → t < node_count b → w ≡ longest_wait b t → length (line_of b t w) ≤ 13
  task_limit {t} {w} l e = line_limit b t w (omega (arith, wait_limit t l))

module _ (b : List ℕ) (wait : ℕ → ℕ) where
  lines_more : (xs : List ℕ) (t : ℕ) → lines_of b wait (xs ++ (t ∷ [])) ≡ lines_of b wait xs ++ line_of b t (wait t)
  unfolding lines_of
  lines_more [] t = append-nil (line_of b t (wait t))
  lines_more (x ∷ xs) t =
      rw (lines_more xs t) (sym (append_assoc (line_of b x (wait x)) (lines_of b wait xs) (line_of b t (wait t))))

  pub lines_short : (xs : List ℕ) → ((u : ℕ) → Among u xs → wait u ≤ 1290240)
      → length (lines_of b wait xs) ≤ 13 * length xs
  unfolding lines_of
  lines_short [] h = omega arith
  lines_short (x ∷ xs) h = omega (
    arith,
    length-append (line_of b x (wait x)) (lines_of b wait xs),
    line_limit b x (wait x) (h x (here refl)),
    lines_short xs (λ u a. h u (there a)),
  )

  -- the first i lines
  pub lines_next : (xs : List ℕ) (i : ℕ) → i < length xs
      → lines_of b wait (take (suc i) xs)
      ≡ lines_of b wait (take i xs) ++ line_of b (get_or xs i 0) (wait (get_or xs i 0))
  lines_next xs i l = ap (lines_of b wait) (take-suc xs i 0 l) ∙ lines_more (take i xs) (get_or xs i 0)

pub ending_is : (n : ℕ) → ((32 ∷ []) ++ decimal n) ++ (10 ∷ []) ≡ ending n
unfolding ending
ending_is n = refl

pub line_is : (b : List ℕ) (t w : ℕ) → name_of b t ++ ending w ≡ line_of b t w
unfolding line_of
line_is b t w = refl

-- ---- they are 01's lines
pub ending_then : (x : List ℕ) (n : ℕ) (s : List ℕ) → (x ++ ending n) ++ s ≡ x ++ 32 ∷ decimal n ++ 10 ∷ s
unfolding ending
ending_then x n s = ap (λ (xs : List ℕ). xs ++ s) (sym (append_assoc x (32 ∷ decimal n) (10 ∷ [])))
    ∙ append_assoc (x ++ 32 ∷ decimal n) (10 ∷ []) s

line_then : (b : List ℕ) (t w : ℕ) (s : List ℕ) → line_of b t w ++ s ≡ name_of b t ++ 32 ∷ decimal w ++ 10 ∷ s
unfolding line_of
line_then b t w s = ending_then (name_of b t) w s

pub task_lines : (b : List ℕ) (wait : ℕ → ℕ) (ts : List ℕ) → TaskLines b wait ts (lines_of b wait ts)
unfolding lines_of
task_lines b wait [] = no_lines
task_lines b wait (t ∷ ts) =
    rw (line_then b t (wait t) (lines_of b wait ts)) (line (plain (wait t)) (task_lines b wait ts))

-- and no other text is
pub lines_only : {b : List ℕ} {longest wait : ℕ → ℕ} {ts s : List ℕ} → ((u : ℕ) → Among u ts → longest u ≡ wait u)
    → TaskLines b longest ts s → s ≡ lines_of b wait ts
unfolding lines_of
lines_only f no_lines = refl
lines_only {b} {wait = wait} {ts = t ∷ ts} f (line {digits = d} p r) =
    ap (λ (xs : List ℕ). name_of b t ++ 32 ∷ d ++ 10 ∷ xs) (lines_only (λ u a. f u (there a)) r)
    ∙ ap (λ (xs : List ℕ). name_of b t ++ 32 ∷ xs ++ 10 ∷ lines_of b wait ts)
    (plain_only p ∙ ap decimal (f t (here refl)))
    ∙ sym (line_then b t (wait t) (lines_of b wait ts))

-- ---- a name is four bytes of the plan, one after another
next_byte : (b : List ℕ) (i j n : ℕ) → j ≡ suc i → i < length b
    → take (suc n) (drop i b) ≡ get_or b i 0 ∷ take n (drop j b)
next_byte b i j n e l = ap (take (suc n)) (drop-cons b i 0 l) ∙ ap (λ (x : ℕ). get_or b i 0 ∷ take n (drop x b)) (sym e)

four : (b : List ℕ) (i j k l : ℕ) → j ≡ suc i → k ≡ suc j → l ≡ suc k → suc l ≤ length b
    → take 4 (drop i b) ≡ get_or b i 0 ∷ get_or b j 0 ∷ get_or b k 0 ∷ get_or b l 0 ∷ []
four b i j k l e f g m =
    next_byte b i j 3 e (omega arith)
    ∙ ap (λ (xs : List ℕ). get_or b i 0 ∷ xs)
    (next_byte b j k 2 f (omega arith)
    ∙ ap (λ (xs : List ℕ). get_or b j 0 ∷ xs)
    (next_byte b k l 1 g (omega arith)
    ∙ ap (λ (xs : List ℕ). get_or b k 0 ∷ xs) (next_byte b l (suc l) 0 refl (omega arith))))

pub name_bytes : (b : List ℕ) (t n : ℕ) → n ≡ 4 → 20 + 4 * t ≤ length b → take n (drop (16 + 4 * t) b) ≡ name_of b t
unfolding name_of name_char
name_bytes b t n e l = rw e (four b (16 + 4 * t) (16 + (4 * t + 1)) (16 + (4 * t + 2)) (16 + (4 * t + 3)) (omega arith)
    (omega arith) (omega arith) (omega arith))

-- ---- the first i lines are written
pub record LinesTo (b : List ℕ) (x y : Text) (i : ℕ) : Type 0 where
  pub inside : i ≤ length (ranking b)
  pub writes : Writes x (lines_of b (longest_wait b) (take i (ranking b))) y
  pub short : y.at ≤ x.at + 13 * i

module _ {b : List ℕ} (ok : Clean b) where
  pub lines_limit : length (lines_of b (longest_wait b) (ranking b)) ≤ 1651
  unfolding ranking
  lines_limit = omega (
    arith,
    lines_short b (longest_wait b) (ranked_to b (node_count b))
        (λ u a. wait_limit ok u (ranked_task b u (node_count b) a).0),
    ranking_length b ok,
  )

  pub lines_none : {x : Text} → LinesTo b x x 0
  unfolding lines_of
  lines_none = record { inside = omega arith; writes = writes_none; short = omega arith }

  -- the task of line i
  pub line_task : {tasks : List ℕ} {i t : ℕ} → tasks ≡ ranking b → i < length tasks → t ≡ get_or tasks i 0
      → (t < node_count b) × (t ≡ get_or (ranking b) i 0)
  unfolding ranking
  line_task {i = i} {t} r l e =
      let q : t ≡ get_or (ranked_to b (node_count b)) i 0 = e ∙ ap (λ (xs : List ℕ). get_or xs i 0) r in (
        rw (← q) at (ranked_task b (get_or (ranked_to b (node_count b)) i 0) (node_count b)
            (among_at (ranked_to b (node_count b)) i (rw r at l))).0,
        q,
      )

  pub lines_turn : {x y z : Text} {i t w : ℕ} → i < length (ranking b) → t < node_count b
      → t ≡ get_or (ranking b) i 0 → w ≡ longest_wait b t → Writes y (line_of b t w) z
      → LinesTo b x y i → LinesTo b x z (i + 1)
  lines_turn {i = i} {t} l m e q k h =
      let lines = lines_of b (longest_wait b) (take i (ranking b)) in
      rw add-one (record {
        inside = omega arith;
        writes = writes_same
            (ap (λ (k : ℕ). lines ++ line_of b t k) q ∙ ap (λ (k : ℕ). lines ++ line_of b k (longest_wait b k)) e
            ∙ sym (lines_next b (longest_wait b) (ranking b) i l)) (writes_then h.writes k);
        short = omega (arith, h.short, k.wrote.next, task_limit ok m q);
      })

  pub lines_all : {x y : Text} {i : ℕ} → length (ranking b) ≤ i → LinesTo b x y i
      → Writes x (lines_of b (longest_wait b) (ranking b)) y
  lines_all {i = i} l h = writes_same (ap (lines_of b (longest_wait b)) (take_all i (ranking b) l)) h.writes
