-- The answers of `status` (`told_complete`); what a call returns and leaves (`refused_16`, `refused_22`, `accepted`);
-- that the events of an accepted call happen one by one, from state to state (`call_steps`); and what the calls promise
-- of both (`called`).
pub mod Answers
pub mod Outcomes
pub mod Events
pub mod Called
