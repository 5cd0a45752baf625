mod Seating
mod OneAct
mod OneTurn
mod Walking
