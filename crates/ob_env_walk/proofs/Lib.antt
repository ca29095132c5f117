mod Visits
mod Files
mod Carried
