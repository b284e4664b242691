use Rattle.ks_row.proofs.Refs.{refs_text, ref_fits}
use Rattle.ks_row.proofs.codec.spell_refs.Goals as goal

pub push_member-requires : goal.push_member-requires
push_member-requires c = ref_fits c.args.members.now c.loop-member.member-index _ c.loop-member-test.true c.requires

pub loop-member-preserved : goal.loop-member-preserved
loop-member-preserved c = refs_text _ _ c.args.members.now c.loop-member.member-index _ _ c.loop-member-test.true c.in_ok-push_member.ensures c.loop-member.invariant
