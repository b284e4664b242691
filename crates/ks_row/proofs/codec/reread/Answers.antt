use Rattle.ks_row.proofs.codec.reread.Goals as goal

pub returns : goal.returns
returns c = c.decode.ensures.only c.args.row.now c.in_ok-bytes.ensures.fits (rw c.as_slice.ensures c.in_ok-bytes.ensures.bytes)
