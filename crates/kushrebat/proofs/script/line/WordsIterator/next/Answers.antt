use Rattle.std.proofs.Common.{rules, length, drop, ◌-◌, ap, arith, length-drop}
use Rattle.std.proofs.lemmas.List.{take_all}
use Rattle.kushrebat.specs.Lines.{space}
use Rattle.kushrebat.proofs.Cuts.{Run, only_spaces, a_word}
use Rattle.kushrebat.proofs.script.line.WordsIterator.next.Goals as goal

pub returns-in_err-spaces-clause-steps : goal.returns-in_err-spaces-clause-steps
returns-in_err-spaces-clause-steps c =
    let run : Run space c.args.self.now.rest.now (length c.args.self.now.rest.now) = search rules in
    let none = only_spaces _ _ run (search rules) in
    search (rules, none)

pub returns-clause-steps : goal.returns-clause-steps
returns-clause-steps c =
    let bs = c.args.self.now.rest.now in
    let n = c.in_ok-spaces.spaces in
    let run : Run space bs n = search rules in
    let all = take_all (length bs - n) (drop n bs) (omega (arith, length-drop n bs)) in
    a_word _ _ _ _ _ _ run (search rules) all c.find.ensures c.split_at.ensures.front c.split_at.ensures.back

pub returns-clause-goes : goal.returns-clause-goes
returns-clause-goes c =
    record {
      on = λ _. (search rules, search rules, omega (arith, ap length (returns-clause-steps c)));
      keeps = search rules;
      rests = search rules;
    }
