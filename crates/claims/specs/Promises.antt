-- 02's two promises about what `assess` answers: "for one book, striking more branches where 28 and 29 pass, or adding
-- orders that the book rules accept, leaves CLEAR as CLEAR and DOOMED as DOOMED". Definitions only.
use Rattle.std.specs.Prelude.{◌≡◌, ℕ, ◌<◌}
use Rattle.std.proofs.Common.{inr}
use mathlib.Core.List.{List, Memᴰ as Among}
use Rattle.plan_format.specs.Format.{node_count, cond_count, flag_count, parent_of, kind_of, cond_node, cond_value}
use Rattle.plan_format.specs.Format.{start_flag}
use Rattle.plan_rules.specs.Rules.{refusal}
use Rattle.plan_check.specs.Meaning.{plan_of, OrderPair}
use Rattle.plan_blocked.specs.Blocked.{refusal_under}
use Rattle.runs.specs.Searches.{listed}
use Rattle.runs.specs.Blocked.{Stands}
use Rattle.runs.specs.Verdict.{CLEAR, DOOMED}
use Rattle.verdict.specs.Verdict.{Answer, said, Assessed}

-- CLEAR stays CLEAR and DOOMED stays DOOMED
pub record AnswerKeeps (a c : Answer) : Type 0 where
  pub clear : said a ≡ inr CLEAR → said c ≡ inr CLEAR
  pub doomed : said a ≡ inr DOOMED → said c ≡ inr DOOMED

-- more branches are blocked: what xs blocks is blocked or under a blocked node with ys. (It need not be in ys: blocking
-- a choice blocks more than blocking a branch of it. `included_more` in proofs/Promises: it is so if every number of xs
-- is in ys.)
abbrev pub BlockingKeeps : Type 0
BlockingKeeps = (b xs ys : List ℕ) → refusal_under b xs ≡ 0 → refusal_under b ys ≡ 0
    → ((s : ℕ) → Among s xs → ¬ Stands (plan_of b) (listed ys) s) → (a c : Answer) → Assessed b xs a
    → Assessed b ys c → AnswerKeeps a c

-- the bytes c say what the bytes b say, and more orders. (Names and minutes are no matter here.)
pub record BytesAddOrders (b c : List ℕ) : Type 0 where
  pub nodes : node_count b ≡ node_count c
  pub kinds : (n : ℕ) → n < node_count b → kind_of b n ≡ kind_of c n
  pub parents : (n : ℕ) → n < node_count b → parent_of b n ≡ parent_of c n
  pub flags : flag_count b ≡ flag_count c
  pub starts : (f : ℕ) → f < 64 → start_flag b f ≡ start_flag c f
  pub conditions : cond_count b ≡ cond_count c
  pub tasks : (i : ℕ) → i < cond_count b → cond_node b i ≡ cond_node c i
  pub values : (i : ℕ) → i < cond_count b → cond_value b i ≡ cond_value c i
  pub orders : (x y : ℕ) → OrderPair b x y → OrderPair c x y

-- orders are added that the rules accept, under any list of blocked nodes that passes, the empty one among them
abbrev pub OrdersKeep : Type 0
OrdersKeep = (b c xs : List ℕ) → BytesAddOrders b c → refusal_under b xs ≡ 0 → refusal c ≡ 0
    → (a d : Answer) → Assessed b xs a → Assessed c xs d → AnswerKeeps a d
