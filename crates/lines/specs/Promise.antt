-- What each public call promises.
-- Assumes nothing.
use Rattle.std.specs.Prelude.{◌≡◌, List, ℕ, ltb, length}
use Rattle.ground.specs.Choice.{pick}
use Rattle.ground.specs.Putting.{put}
use Rattle.lines.specs.declared.Line.{Line}
use Rattle.lines.specs.declared.Ran.{Ran}
use Rattle.lines.specs.Meaning.{header}
use Rattle.lines.specs.Reading.{fresh, step, answer_of}
use Rattle.lines.specs.Meaning.{enough}
use Rattle.lines.specs.Running.{ran_over}

-- `fresh_line` answers a line that has no bytes
pub record FreshPromise (r : Line) : Type 0 where
  pub answer : r ≡ fresh

-- `with_byte` answers what is known after one byte more
pub record WithBytePromise (line : Line) (byte : ℕ) (r : Line) : Type 0 where
  pub answer : r ≡ step line byte

-- `put_header` puts the header at the front of a room and answers how long it is; in a room under 80 bytes nothing
pub record HeaderPromise (room : List ℕ) (r : ℕ) (after : List ℕ) : Type 0 where
  pub answer : r ≡ pick (ltb (length room) enough) 0 (length header)
  pub memory : after ≡ pick (ltb (length room) enough) room (put room 0 header)

-- `put_answer` puts a line's answer at the front of a room and answers how long it is; in a room under 80 bytes nothing
pub record AnswerPromise (line : Line) (room : List ℕ) (r : ℕ) (after : List ℕ) : Type 0 where
  pub answer : r ≡ pick (ltb (length room) enough) 0 (length (answer_of line))
  pub memory : after ≡ pick (ltb (length room) enough) room (put room 0 (answer_of line))

-- `run` answers what is known after the bytes it used, how many these are and how many it put; the text stands at the room's front
pub record RunPromise (line : Line) (input room : List ℕ) (r : Ran) (after : List ℕ) : Type 0 where
  pub state : r.line ≡ (ran_over (length room) line input).line
  pub used : r.used ≡ (ran_over (length room) line input).used
  pub answer : r.put ≡ length (ran_over (length room) line input).text
  pub memory : after ≡ put room 0 (ran_over (length room) line input).text
