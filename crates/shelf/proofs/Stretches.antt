-- What stands at the end of a stretch. Assumes nothing.
use Rattle.std.proofs.Common.{◌≡◌, ℕ, ◌+◌, ◌-◌, ◌<◌, ◌≤◌, List, [], ◌∷◌, ◌++◌, length, take, drop, ap, ◌∙◌, arith}
use Rattle.std.proofs.lemmas.List.{take_more, get_or-drop, length-drop}
use Rattle.shelf.specs.declared.row.Row.{Row}
use Rattle.shelf.specs.Rows.{blank, row_at}
use Rattle.shelf.specs.Stretch.{stretch}

pub stretch_last : (rs : List Row) (a b : ℕ) → a ≤ b → b < length rs → stretch rs a (b + 1) ≡ stretch rs a b ++ row_at rs b ∷ []
stretch_last rs a b le h =
    let more = take_more (drop a rs) (b - a) blank (simp length-drop (omega arith)) in
    let one : (b + 1) - a ≡ (b - a) + 1 = omega arith in
    let back : a + (b - a) ≡ b = omega arith in
    ap (λ n. take n (drop a rs)) one ∙ more ∙ ap (λ x. stretch rs a b ++ x ∷ []) (get_or-drop a rs (b - a) blank ∙ ap (row_at rs) back)
