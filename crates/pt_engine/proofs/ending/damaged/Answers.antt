use Rattle.std.proofs.Common.{◌≡◌, ◌≤◌, length, codes, ◌∙◌, arith}
use Rattle.std.specs.Fmt.{decimal}
use Rattle.pt_engine.proofs.Overwrites.{four-written}
use Rattle.pt_engine.proofs.ending.damaged.Goals as goal

pub returns-clause-bytes : goal.returns-clause-bytes
returns-clause-bytes c =
    let digits : c.as_bytes.result.now ≡ decimal c.args.place = c.as_bytes.ensures.value ∙ c.format.ensures.text in
    let short : length c.bytes.result.now ≤ 160 = rw c.bytes.ensures.value c.bytes.ensures.name.fits in
    rw (← digits, ← c.bytes.ensures.value)
    (four-written c.args.into.now (codes "damaged ") c.bytes.result.now (codes " ") c.as_bytes.result.now _ _ _ _ _ _ _ _ (omega arith)
    c.put-name_at.ensures.bytes c.put-name_at.ensures.end c.put-space_at.ensures.bytes c.put-space_at.ensures.end
    c.put-place_at.ensures.bytes c.put-place_at.ensures.end c.put.ensures.bytes c.put.ensures.end)
