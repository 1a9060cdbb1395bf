use Rattle.leagues_and_cups.proofs.RoundFacts.{one_wins, round_follows, starts_by_slots, winners_halve}
use Rattle.leagues_and_cups.proofs.cup_laws.rounds_follow.Goals as goal

pub returns-clause-start : goal.returns-clause-start
returns-clause-start c = starts_by_slots

pub returns-clause-count : goal.returns-clause-count
returns-clause-count c = winners_halve

pub returns-clause-follows : goal.returns-clause-follows
returns-clause-follows c = round_follows

pub returns-clause-last : goal.returns-clause-last
returns-clause-last c = one_wins
