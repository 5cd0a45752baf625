-- What the reader and the levels of the parser answer, for their own contracts; the contract of `parse` speaks of words and formulas alone.
use Rattle.std.specs.Prelude.{◌≡◌, ℕ, ◌+◌, ◌<◌, ◌≤◌, List, [], ◌∷◌, ◌++◌, length, drop, Some, None, Option, Result, MatchResult}
use Rattle.formulas.specs.declared.word.Word.{Word}
use Rattle.formulas.specs.declared.node.Node.{Node}
use Rattle.formulas.specs.Formulas.{Formula, temporal, one, promises}
use Rattle.formulas.specs.Trees.{laid}
use Rattle.grammar.specs.declared.misread.Stray.{Stray}
use Rattle.grammar.specs.declared.reader.Reader.{Reader}
use Rattle.grammar.specs.Nodes.{front}
use Rattle.grammar.specs.Grammar.{Level, Derives, rule}
use Rattle.grammar.specs.Machine.{weak, Goes, Dies}

-- The words that are left.
abbrev pub rest : Reader → List Word
rest r = drop r.at r.words.now

pub record Begun (ws : List Word) (r : Reader) : Type 0 where
  pub words : r.words.now ≡ ws
  pub all : rest r ≡ ws
  pub nodes : front r.tree ≡ []
  pub operators : r.tree.operators ≡ 0

-- The next word is w.
abbrev pub Next : Reader → Word → Type 0
Next r w = (rest r ≡ w ∷ drop (r.at + 1) r.words.now) × (r.at < length r.words.now)

-- The next word, where there is one.
abbrev pub Front : Reader → Option Word → Type 0
Front r None = rest r ≡ []
Front r (Some w) = Next r w

-- The word w was passed, and so many temporal operators are before it.
pub record Passed (old : Reader) (w : Word) (new : Reader) (before : ℕ) : Type 0 where
  pub words : new.words.now ≡ old.words.now
  pub at : new.at ≡ old.at + 1
  pub passed : rest old ≡ w ∷ rest new
  pub same : front new.tree ≡ front old.tree
  pub number : before ≡ old.tree.operators
  pub operators : new.tree.operators ≡ old.tree.operators + one temporal w

-- The node x was added, and is at the index r.
pub record Pushed (old : Reader) (x : Node) (new : Reader) (r : ℕ) : Type 0 where
  pub words : new.words.now ≡ old.words.now
  pub at : new.at ≡ old.at
  pub left : rest new ≡ rest old
  pub added : front new.tree ≡ front old.tree ++ x ∷ []
  pub root : r ≡ length (front old.tree)
  pub operators : new.tree.operators ≡ old.tree.operators

-- The words that were read are a part of the level, and its nodes are the last, its root the very last; what follows binds that weakly at least.
pub record Took (l : Level) (low : ℕ) (old new : Reader) (root : ℕ) : Type 0 where
  pub words : new.words.now ≡ old.words.now
  pub more : old.at < new.at
  pub formula : Formula
  pub derives : Derives l (rest old) (rest new) formula
  pub listed : front new.tree ≡ front old.tree ++ laid (length (front old.tree)) old.tree.operators formula
  pub operators : new.tree.operators ≡ old.tree.operators + promises formula
  pub room : length (front new.tree) + old.at ≤ length (front old.tree) + new.at
  pub last : root + 1 ≡ length (front new.tree)
  pub stops : low ≤ weak (rest new)

pub record TookRule (old new : Reader) (root : ℕ) : Type 0 where
  pub took : Took rule 5 old new root
  pub goes : Goes rule (rest old) (rest new) took.formula

-- No part of the level begins where the reader is: its words fail at the index e.
pub record Failed (l : Level) (old : Reader) (e : ℕ) : Type 0 where
  pub within : e ≤ length old.words.now
  pub dies : Dies l (rest old) (drop e old.words.now)

-- The part of the level that was read to its end, or where the words fail.
abbrev pub Read : Level → ℕ → Reader → Reader → Result ℕ Stray → Type 0
Read l low old new r = MatchResult r (Took l low old new) (λ e. Failed l old e.at)

abbrev pub ReadRule : Reader → Reader → Result ℕ Stray → Type 0
ReadRule old new r = MatchResult r (TookRule old new) (λ e. Failed rule old e.at)
