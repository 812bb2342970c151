-- Each command answers its request.
use Rattle.command_line.proofs.running.answer.Goals as goal

pub pair-requires : goal.pair-requires
pair-requires g c = record { rounds = rw c.in-Pair.is at c.requires.rounds; worth = c.requires.worth }

pub returns-in-Check : goal.returns-in-Check
returns-in-Check g c = rw c.in-Check.is c.check.ensures

pub returns-in-Format : goal.returns-in-Format
returns-in-Format g c = rw c.in-Format.is c.format.ensures

pub returns-in-Enter : goal.returns-in-Enter
returns-in-Enter g c = rw c.in-Enter.is c.enter.ensures

pub returns-in-Boards : goal.returns-in-Boards
returns-in-Boards g c = rw c.in-Boards.is c.boards.ensures

pub returns-in-Candidates : goal.returns-in-Candidates
returns-in-Candidates g c = rw c.in-Candidates.is c.candidates.ensures

pub returns-in-Explain : goal.returns-in-Explain
returns-in-Explain g c = rw c.in-Explain.is c.explain.ensures

pub returns-in-Standings : goal.returns-in-Standings
returns-in-Standings g c = rw c.in-Standings.is c.standings.ensures

pub returns-in-Sheet : goal.returns-in-Sheet
returns-in-Sheet g c = rw c.in-Sheet.is c.sheet.ensures

pub returns-in-Pair : goal.returns-in-Pair
returns-in-Pair g c = rw c.in-Pair.is c.pair.ensures
