use Rattle.std.proofs.Common.{◌≡◌, length}
use Rattle.rules.proofs.Sofar.{Sofar}
use Rattle.rules.proofs.lexer.lex.Given as goal

abbrev pub invariant-loop-piece : goal.invariant-loop-piece
invariant-loop-piece g l = record {
  can_next : (goal.iterator-loop-piece g).can_next l.piece-iterator;
  is_finite : (goal.iterator-loop-piece g).is_finite l.piece-iterator;
  same : l.piece-iterator.text.now ≡ l.text;
  sofar : Sofar g.K.Kind.NAMES g.K.Kind.text l.text l.piece-iterator.at l.sentence.words.items l.sentence.places.items;
  end : l.sentence.end ≡ length l.text;
}
