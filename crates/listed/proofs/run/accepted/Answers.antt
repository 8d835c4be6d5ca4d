-- `listed::run::accepted`: 51, or the words are read and the run is made. It meets its contract.
use Rattle.std.proofs.Common.{◌/◌, length, refl, le-ltb, lt-ltb}
use Rattle.listed.proofs.FilledLaws.{filled}
use Rattle.listed.proofs.run.accepted.Goals as goal

pub returns-then-list-words : goal.returns-then-list-words
returns-then-list-words c =
    let a = c.args in
    rw (lt-ltb (length a.list.now) (length a.program.now / 4) c.if-list-words.true)
    (record {
      short = refl;
      ended = record {
        reason = refl;
        carried = refl;
        count = refl;
        control = refl;
        vec = refl;
        gen = refl;
        work = refl;
      };
      list = refl;
    })

pub returns-then-c : goal.returns-then-c
returns-then-c c =
    let a = c.args in
    let left = c.if-list-words.false in
    let done = c.fill.ensures in
    let reads = filled a.board.program a.program.now a.list.now c.requires left done.are_words in
    rw (le-ltb (length a.list.now) (length a.program.now / 4) left)
    (record {
      short = refl;
      ended = c.turns-ended.ensures
          a.program.now (rw done.list_after reads);
      list = done.list_after;
    })

pub returns-else-c : goal.returns-else-c
returns-else-c c =
    let a = c.args in
    let left = c.if-list-words.false in
    let done = c.fill.ensures in
    let reads = filled a.board.program a.program.now a.list.now c.requires left done.are_words in
    rw (le-ltb (length a.list.now) (length a.program.now / 4) left)
    (record {
      short = refl;
      ended = c.turns_off-ended.ensures a.program.now a.table.now
          a.vectors.now a.work.now (rw done.list_after reads);
      list = done.list_after;
    })
