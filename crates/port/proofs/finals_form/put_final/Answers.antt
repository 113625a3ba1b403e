use Rattle.std.proofs.Common.{◌≡◌, length, ap, ◌∙◌, arith}
use Rattle.tail_map.specs.MapForm.{map_bytes}
use Rattle.port.proofs.FinalsForms.{map_small}
use Rattle.port.proofs.finals_form.put_final.Goals as goal

pub overflow_cast-bytes : goal.overflow_cast-bytes
overflow_cast-bytes c =
    let rows = c.ended.inside.map.rows in
    let same : length c.bytes.result.now ≡ length (map_bytes rows) = ap length (c.bytes.ensures ∙ c.in_ok-map.ensures) in
    omega (arith, same, map_small rows c.rows.ensures.map)
