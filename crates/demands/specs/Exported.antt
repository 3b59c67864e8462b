-- Demand 3 of the exported calls, by which benches in C, Rust and Python work, said of what a bench sees: the numbers that the calls answer, the sums and
-- the "again" in
-- their lent places, memory and state. Nothing is lost over any session from an opening that answered 0, and a repeat answers the same sum and changes nothing.
-- Assumes nothing.

pub use Rattle.demands.specs.Session.{Made, Meets, Session, accepted_in, cleared_in, new_in, NoneNew, session_conserves, Repeated, session_repeats}
pub use Rattle.demands.specs.Session.{PacketRepeated, session_packet_repeats}
