-- The first tab, by the contract of `position`.
use Rattle.std.proofs.Common.{◌≡◌, ℕ, ◌≤◌, ◌<◌, length, get_or, rules}
use Rattle.name_lines.proofs.Tabs.{first-tab}
use Rattle.name_lines.proofs.tab_at.Goals as goal

pub returns : goal.returns
returns c =
    let within : c.unwrap_or.result ≤ length c.args.line.now = search rules in
    let before : (k : ℕ) → k < c.unwrap_or.result → get_or c.args.line.now k 0 ≡ 0x09 → ⊥ = search rules in
    let found : c.unwrap_or.result < length c.args.line.now → get_or c.args.line.now c.unwrap_or.result 0 ≡ 0x09 = search rules in
    first-tab _ _ within before found
