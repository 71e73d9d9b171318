use Rattle.std.proofs.Common.{rules, ◌≡◌, ◌<◌, min, length, set, subst, ◌∙◌, arith}
use Rattle.std.proofs.lemmas.List.{length-set}
use Rattle.shelf.specs.Rows.{most_rows, rank_of}
use Rattle.chain.specs.Links.{link_of}
use Rattle.chain.specs.Chains.{ComesBehind, chain_rows}
use Rattle.chain.proofs.Walks.{length_walked}
use Rattle.chain.proofs.Hooks.{Hooked, first_hooked, behind_hooked, comes_inside, hooked_rows, hooked_inside, hooked_rising}
use Rattle.chain.proofs.chain.Chain.hook.Goals as goal
use Rattle.chain.proofs.chain.Chain.hook.Goals.{in-None, in-Some}

pub offset_bounds-links-slot : goal.offset_bounds-links-slot
offset_bounds-links-slot c =
    let inside = comes_inside c.args.self.now c.args.row c.args.before c.in-Some.slot c.in-Some.is c.requires.behind in
    let few = c.args.self.now.few in
    search rules

pub bounds-links-slot : goal.bounds-links-slot
bounds-links-slot c =
    let inside = comes_inside c.args.self.now c.args.row c.args.before c.in-Some.slot c.in-Some.is c.requires.behind in
    omega (arith, inside, c.args.self.now.fits)

-- whatever the row is hooked behind, the links are as many as before and chained with it
hooked : (c : goal.Joined-before) → let chain = c.args.self.now in let made = c.match-before in
    let new = set made.links chain.len (link_of c.args.row made.next) in
    (length new ≡ length chain.links.now) × Hooked chain.links.now chain.head new made.self.1.1.0 chain.len (rank_of (chain_rows chain) c.args.row.label) c.args.row
hooked c =
    let chain = c.args.self.now in
    let ls = chain.links.now in
    let room : chain.len < min (length ls) most_rows = omega (arith, c.requires.room, chain.long) in
    elim c.match-before.branch [
      | in-None w ↦
          let behind = subst (ComesBehind chain c.args.row.label) w.in-None.is c.requires.behind in
          rw w.self-is (rw w.links-is (rw w.next-is (rw w.replace-next.ensures.value (rw w.replace-next.ensures.after
          (length-set ls chain.len _, first_hooked ls chain.head chain.len c.args.row (omega arith) chain.inside behind)))))
      | in-Some w ↦
          let behind = subst (ComesBehind chain c.args.row.label) w.in-Some.is c.requires.behind in
          rw w.self-is (rw w.links-is (rw w.next-is (rw w.replace-next-in-Some.ensures.value (rw w.replace-next-in-Some.ensures.after (
            length-set _ chain.len _ ∙ length-set ls w.in-Some.slot _,
            behind_hooked ls chain.head chain.len c.args.row (omega arith) chain.inside w.in-Some.slot chain.rising behind,
          )))))
    ]

pub invariant_of-self : goal.invariant_of-self
invariant_of-self c =
    let chain = c.args.self.now in
    let room : chain.len < min (length chain.links.now) most_rows = omega (arith, c.requires.room, chain.long) in
    let hook = hooked c in
    record {
      few = omega arith;
      fits = omega (arith, hook.0);
      inside = hooked_inside _ _ _ _ _ _ _ hook.1;
      long = length_walked _ _ _;
      rising = hooked_rising _ _ _ _ _ _ hook.1 chain.rising c.requires.absent;
    }

pub returns-clause-rows : goal.returns-clause-rows
returns-clause-rows c = hooked_rows _ _ _ _ _ _ _ (hooked c.before).1
