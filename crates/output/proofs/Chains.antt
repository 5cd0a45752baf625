-- One text put after another.
use Rattle.std.proofs.Common.{ℕ, ◌+◌, ◌≤◌, List, [], ◌++◌, length, vec_capacity, sym, ap, ◌∙◌, append_assoc, append-nil, arith, length-append}
use Rattle.output.specs.declared.writer.Writer.{Writer}
use Rattle.output.specs.Writing.{put_so_far, Wrote}

pub nothing : (w : Writer) → Wrote w [] w
nothing w = record { whole = λ e. (e, sym (append-nil (put_so_far w))); fits = λ e h. e; room = omega arith }

pub after : {w v u : Writer} {a b : List ℕ} → Wrote w a v → Wrote v b u → Wrote w (a ++ b) u
after {w} {v} {u} {a} {b} p q =
    record {
      whole = λ e. let (f, y) = q.whole e in let (g, x) = p.whole f in (g, y ∙ ap (λ l. l ++ b) x ∙ append_assoc (put_so_far w) a b);
      fits = λ e h.
          let fit : length (put_so_far w) + (length a + length b) ≤ vec_capacity w.bytes = omega (arith, length-append a b) in
          let f = p.fits e (omega arith) in
          let long = ap length (p.whole f).1 ∙ length-append (put_so_far w) a in
          q.fits f (omega (arith, p.room));
      room = omega (arith, p.room, q.room);
    }
