-- `start_words` meets its contract. Assumes nothing.
use Rattle.std.proofs.Common.{rules}
use Rattle.std.proofs.lemmas.List.{places}
use Rattle.marks_group.proofs.start_words.Goals as goal

pub returns : goal.returns
returns c = record { every = λ k l a b. search (rules, places); some = λ k l x. search (rules, places) }
