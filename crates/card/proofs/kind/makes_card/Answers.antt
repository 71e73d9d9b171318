use Rattle.std.proofs.Common.{◌≡◌, ℕ, rules, refl}
use Rattle.card.specs.Readings.{reads_word}
use Rattle.card.proofs.kind.makes_card.Goals as goal

-- the lawful words of a kind are those of its cards
pub returns : goal.returns
returns g c =
    let k = g.C.Card in
    let w : ℕ = c.args.word in
    let r = reads_word k.code k.decode (λ n. (x : _) × (k.code x ≡ n)) g.met.C.Card.round g.met.C.Card.own (λ x. (x, refl)) (λ _ l. l) w in
    let whole = r.exactly in
    search rules
