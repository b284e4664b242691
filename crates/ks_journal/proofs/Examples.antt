-- Lines written out, against the definition: a record, a whole transaction and its refusals, and the requests of the group.
use Rattle.std.proofs.Common.{◌≡◌, ℕ, List, [], ◌∷◌, true, false, codes, Some, None, refl}
use Rattle.std.specs.Fmt.{digits}
use Rattle.json.specs.Print.{escape_byte}
use Rattle.ks_record.specs.Records.{Record as Rec}
use Rattle.ks_record.specs.declared.record.PartId.{PartId}
use Rattle.ks_record.specs.declared.record.TaskId.{TaskId}
use Rattle.ks_record.specs.declared.assignment.Refused.TheVariants.{Fenced, NoTransaction, OldGeneration, NotAssigned, MarkersWaiting, BadAssignment}
use Rattle.ks_history.specs.declared.journal.Request.{Request}
use Rattle.ks_history.specs.declared.journal.Request.TheVariants.{Produce, Init, Add, Append, SendOffsets, Decide, MarkNext, Join, Expire, Hold, Probe, Assign, Park, Unpark}
use Rattle.ks_history.specs.declared.journal.Reply.{Reply}
use Rattle.ks_history.specs.declared.journal.Reply.TheVariants.{Done, Number, Truth, Mark, Refused}
use Rattle.ks_journal.specs.Lines.{entry_text}

abbrev line_of : Request → Reply → List ℕ
line_of r reply = entry_text (record { request = r; reply = reply })

abbrev part : ℕ → ℕ → PartId
part topic n = record { topic = topic; part = n }

abbrev task : ℕ → ℕ → TaskId
task sub n = record { sub = sub; part = n }

-- the row {"n":1} of the key a
abbrev one_row : Rec
one_row = record { key = Some (97 ∷ []); value = Some (1 ∷ 1 ∷ 110 ∷ 0 ∷ 0 ∷ 0 ∷ 0 ∷ 0 ∷ 0 ∷ 0 ∷ 0 ∷ 1 ∷ []); ts = 0 }

abbrev bare : Rec
bare = record { key = None; value = Some []; ts = 7 }

produced : line_of (Produce (part 0 0) one_row) (Number 0) ≡ codes "[\"produce\",0,0,[\"61\",\"01016e000000000000000001\",0],0]"
unfolding escape_byte digits
produced = refl

begun : line_of (Init 16) (Number 1) ≡ codes "[\"init\",16,1]"
unfolding escape_byte digits
begun = refl

added : line_of (Add 0 1 (part 1 0)) (Refused (MarkersWaiting 3)) ≡ codes "[\"add\",0,1,1,0,[8,3]]"
unfolding escape_byte digits
added = refl

appended : line_of (Append 0 1 0 (task 0 10) (part 1 0) (one_row ∷ bare ∷ [])) (Refused NoTransaction)
    ≡ codes "[\"append\",0,1,0,\"0_10\",1,0,[[\"61\",\"01016e000000000000000001\",0],[null,\"\",7]],[4]]"
unfolding escape_byte digits
appended = refl

sent : line_of (SendOffsets 0 1 2 (task 0 0) ((0, 1) ∷ []) ((0, 1) ∷ (2, 5) ∷ []) 4) (Refused (NotAssigned None))
    ≡ codes "[\"offsets\",0,1,2,\"0_0\",[[0,1]],[[0,1],[2,5]],4,[6,null]]"
unfolding escape_byte digits
sent = refl

decided : line_of (Decide 0 1 true) (Refused (Fenced 2)) ≡ codes "[\"decide\",0,1,true,[2,2]]"
unfolding escape_byte digits
decided = refl

marked : line_of (MarkNext 0) (Mark (Some (part 1 0, false))) ≡ codes "[\"mark\",0,[1,0,false]]"
unfolding escape_byte digits
marked = refl

unmarked : line_of (MarkNext 0) (Mark None) ≡ codes "[\"mark\",0,null]"
unfolding escape_byte digits
unmarked = refl

joined : line_of (Join 1) (Number 2) ≡ codes "[\"join\",1,2]"
unfolding escape_byte digits
joined = refl

expired : line_of (Expire 0) (Truth true) ≡ codes "[\"expire\",0,true]"
unfolding escape_byte digits
expired = refl

held : line_of (Hold 1 ((task 0 0, 2) ∷ [])) Done ≡ codes "[\"hold\",1,[[\"0_0\",2]],true]"
unfolding escape_byte digits
held = refl

probed : line_of (Probe 1 3) (Refused (OldGeneration 4)) ≡ codes "[\"probe\",1,3,[5,4]]"
unfolding escape_byte digits
probed = refl

assigned : line_of (Assign 1 2 (record { active = (task 0 0, 1) ∷ []; standby = []; warmup = (task 0 1, 2) ∷ [] })) (Refused (BadAssignment (task 3 4)))
    ≡ codes "[\"assign\",1,2,[[\"0_0\",1]],[],[[\"0_1\",2]],[9,\"3_4\"]]"
unfolding escape_byte digits
assigned = refl

parked : line_of (Park 2 (task 1 1)) Done ≡ codes "[\"park\",2,\"1_1\",true]"
unfolding escape_byte digits
parked = refl

taken : line_of (Unpark 2 (task 1 1)) (Truth false) ≡ codes "[\"unpark\",2,\"1_1\",false]"
unfolding escape_byte digits
taken = refl
