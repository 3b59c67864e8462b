-- The data and the header say the same: "where that refuses, the part is empty".
-- Assumes nothing.
use Rattle.std.specs.Prelude.{◌≡◌, refl, Bool, true, false, not, ◌&&◌, List, [], ℕ, ◌+◌, length, take, drop, Result}
use Rattle.std.specs.Borrow.{Bor}
use Rattle.ground.specs.Choice.{pick}
use Rattle.ground.specs.Paper.{Paper, accepted, refusal, refused}
use Rattle.packet.specs.declared.Headed.{Headed}
use Rattle.packet.specs.declared.NoHeader.{NoHeader}
use Rattle.packet.specs.Answers.{headed_paper}
use Rattle.packet.specs.Promise.{HeaderPromise, PayloadPromise}
use Rattle.packet.specs.Meaning.{too_long, stands, data_length, apid_at, header_means, payload_means, payload_start, HeaderValues}
use Rattle.packet.specs.Laws.{standing, data_long}

-- what the header's answer says of the part: empty on a refusal; n bytes from 8 after the place where it answers n
abbrev pub Agrees : Paper HeaderValues → List ℕ → ℕ → ℕ → Type 0
Agrees (accepted v) part start at = (length part ≡ v.length) × (start ≡ at + 8)
Agrees (refusal k carried) part start at = part ≡ []

-- by the two tests that both calls make
agrees_by : (l : List ℕ) (at : ℕ) (t b : Bool) → too_long l ≡ t → stands l at ≡ b
    → Agrees (pick t (refused 1) (pick b (accepted (record { apid = apid_at l at; length = data_length l at })) (refused 20)))
    (pick (not t && b) (take (data_length l at) (drop (at + 8) l)) [])
    (pick (not t && b) (at + 8) 0) at
agrees_by l at true b e f = refl
agrees_by l at false true e f = (data_long l at (standing l at f), refl)
agrees_by l at false false e f = refl

-- what both calls mean, of one capture and place
agrees : (l : List ℕ) (at : ℕ) → Agrees (header_means l at) (payload_means l at) (payload_start l at) at
unfolding header_means payload_means payload_start
agrees l at = agrees_by l at (too_long l) (stands l at) refl refl

-- of one capture and place, whatever `header` and `payload` answer: the part is as the header's answer says
pub header_payload : {capture : Bor (List ℕ)} {at : ℕ} {h : Result Headed NoHeader} {r : Bor (List ℕ)}
    → HeaderPromise capture.now at h → PayloadPromise capture at r
    → (start : ℕ) × (r.ref_ptr.1 ≡ capture.ref_ptr.1 + start) × Agrees (headed_paper h) r.now start at
header_payload {capture} {at} p q = (
  payload_start capture.now at,
  q.place,
  rw (p.answer, q.bytes) (agrees capture.now at),
)
